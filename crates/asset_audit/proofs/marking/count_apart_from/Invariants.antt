use Rattle.std.proofs.Common.{map, length}
use Rattle.asset_audit.proofs.Marks.{ShowsSeen}
use Rattle.asset_audit.proofs.marking.count_apart_from.Given as goal

abbrev pub invariant-loop-place : goal.invariant-loop-place
invariant-loop-place g l = ShowsSeen (map g.C.Calls.listed l.sessions) l.place l.first (length l.fn.marks) l.marks
