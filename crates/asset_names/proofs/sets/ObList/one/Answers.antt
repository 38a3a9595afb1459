use Rattle.std.proofs.Common.{refl, arith}
use Rattle.asset_names.specs.Sets.{numbers}
use Rattle.asset_names.proofs.sets.ObList.one.Goals as goal

pub invariant_of-result : goal.invariant_of-result
unfolding numbers
invariant_of-result c = record { some = omega arith; few = omega arith; slots = refl; rising = λ k few. absurd (omega (arith, few)); rest = refl }
