use Rattle.std.proofs.Common.{rules}
use Rattle.asset_names.specs.InSet.{in_set}
use Rattle.asset_names.proofs.sets.ObSet.has.Goals as goal

pub returns-in-All : goal.returns-in-All
unfolding in_set
returns-in-All c = search rules

pub returns-in-Listed : goal.returns-in-Listed
unfolding in_set
returns-in-Listed c = search rules
