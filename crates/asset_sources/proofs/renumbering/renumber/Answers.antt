use Rattle.std.proofs.Common.{rules}
use Rattle.asset_laws.specs.Renumbered.{writing}
use Rattle.asset_sources.proofs.renumbering.renumber.Goals as goal

pub returns-in-Add : goal.returns-in-Add
unfolding writing
returns-in-Add c = search rules
