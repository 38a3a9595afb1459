-- What is wrong with the first bad word is so with the first one of those that are left.
use Rattle.std.proofs.Common.{◌≡◌, length}
use Rattle.asset_reasons.specs.Mistakes.{first_mistake}
use Rattle.asset_reasons.proofs.words.first_mistake.Given as goal

abbrev pub invariant-operands : goal.invariant-operands
invariant-operands l = first_mistake l.operands l.fn.words ≡ first_mistake l.rest l.words

abbrev pub decreases-operands : goal.decreases-operands
decreases-operands l = length l.rest
