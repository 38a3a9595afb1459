-- So many parts came.
use Rattle.std.proofs.Common.{◌≡◌, ◌+◌, ◌≤◌, length}
use Rattle.asset_reasons.proofs.operands.has_many.Given as goal

abbrev pub invariant-parts : goal.invariant-parts
invariant-parts l = (l.count + length l.parts ≡ length l.fn.parts) × (l.count ≤ 16)

abbrev pub decreases-parts : goal.decreases-parts
decreases-parts l = length l.parts
