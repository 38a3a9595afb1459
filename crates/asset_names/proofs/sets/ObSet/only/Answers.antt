use Rattle.std.proofs.Common.{rules}
use Rattle.asset_names.specs.InSet.{only_in}
use Rattle.asset_names.proofs.sets.ObSet.only.Goals as goal

pub returns-then-objects-eq1 : goal.returns-then-objects-eq1
unfolding only_in
returns-then-objects-eq1 c = search rules
