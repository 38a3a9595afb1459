use Rattle.asset_audit.proofs.Marks.{Marks}
use Rattle.asset_audit.proofs.marking.mark_calls.Given as goal

abbrev pub invariant-loop-place : goal.invariant-loop-place
invariant-loop-place l = Marks l.calls l.place l.first l.fn.marks l.marks
