use Rattle.std.proofs.Common.{length}
use Rattle.asset_ends.specs.Ended.{marked_by}
use Rattle.asset_ends.proofs.EndingLemmas.{AreEnding}
use Rattle.asset_ends.proofs.ending.end_marked.Given as goal

-- those whose mark is taken have ended
abbrev pub invariant-marked : goal.invariant-marked
invariant-marked l = AreEnding l.how l.initial.parts l.parts

abbrev pub decreases-marked : goal.decreases-marked
decreases-marked l = length (marked_by l.parts)
