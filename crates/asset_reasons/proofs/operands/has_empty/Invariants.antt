-- No part so far is empty.
use Rattle.std.proofs.Common.{◌≡◌, length}
use Rattle.asset_reasons.specs.Mistakes.{has_empty}
use Rattle.asset_reasons.proofs.operands.has_empty.Given as goal

abbrev pub invariant-parts : goal.invariant-parts
invariant-parts l = has_empty l.fn.parts ≡ has_empty l.parts

abbrev pub decreases-parts : goal.decreases-parts
decreases-parts l = length l.parts
