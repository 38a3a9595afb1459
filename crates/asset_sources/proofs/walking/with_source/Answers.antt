use Rattle.std.proofs.Common.{rules}
use Rattle.asset_sources.specs.Sourced.{read_of, read_with}
use Rattle.asset_sources.proofs.walking.with_source.Goals as goal

pub returns-in-Some : goal.returns-in-Some
unfolding read_of read_with
returns-in-Some c = search rules
