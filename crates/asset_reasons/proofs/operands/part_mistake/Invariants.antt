-- The parts so far are numbers.
use Rattle.std.proofs.Common.{◌≡◌, length}
use Rattle.asset_reasons.specs.Mistakes.{part_mistake}
use Rattle.asset_reasons.proofs.operands.part_mistake.Given as goal

abbrev pub invariant-parts : goal.invariant-parts
invariant-parts l = part_mistake l.fn.parts ≡ part_mistake l.parts

abbrev pub decreases-parts : goal.decreases-parts
decreases-parts l = length l.parts
