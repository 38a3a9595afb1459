-- What is left has the pair, with the byte before it, if the line has it.
use Rattle.std.proofs.Common.{◌≡◌, ◌∷◌, length}
use Rattle.asset_reasons.specs.Spelling.{has_pair}
use Rattle.asset_reasons.proofs.spelling.has_pair.Given as goal

abbrev pub invariant-bytes : goal.invariant-bytes
invariant-bytes l = has_pair l.first l.second l.line ≡ has_pair l.first l.second (l.before ∷ l.rest)

abbrev pub decreases-bytes : goal.decreases-bytes
decreases-bytes l = length l.rest
