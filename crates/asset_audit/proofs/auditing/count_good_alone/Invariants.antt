use Rattle.std.proofs.Common.{map, reverse}
use Rattle.asset_audit.specs.Apart.{AreGoodAlone}
use Rattle.asset_audit.proofs.auditing.count_good_alone.Given as goal

abbrev pub invariant-loop-place : goal.invariant-loop-place
invariant-loop-place g l = AreGoodAlone (reverse l.history.entries) (map g.C.Calls.listed l.sessions) l.place
