use Rattle.std.proofs.Common.{rules}
use Rattle.asset_laws.specs.Renumbered.{source_number}
use Rattle.asset_sources.specs.Sourced.{source_from}
use Rattle.asset_sources.proofs.renumbering.source_numbered.Goals as goal

pub returns-in-Some : goal.returns-in-Some
unfolding source_number source_from
returns-in-Some c = search rules
