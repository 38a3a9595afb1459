use Rattle.std.proofs.Common.{refl, ap}
use Rattle.std.specs.Prelude.{Some}
use Rattle.asset_names.specs.Sets.{twice, HasNoDouble}
use Rattle.asset_check.specs.Checking.{seen_in}
use Rattle.asset_check.proofs.checker.Checker.new.Goals as goal

pub invariant_of-result : goal.invariant_of-result
unfolding HasNoDouble twice
invariant_of-result c = rw c.new-opening.ensures (λ m. refl)

pub returns : goal.returns
unfolding seen_in
returns c = ap Some c.new-opening.ensures
