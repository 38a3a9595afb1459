use Rattle.std.proofs.Common.{◌≡◌, map, take}
use Rattle.asset_audit.specs.Audited.{told_by}
use Rattle.asset_audit.proofs.auditing.compare.Given as goal

abbrev pub invariant-loop-session : goal.invariant-loop-session
invariant-loop-session g l = l.told ≡ told_by (take l.session-index (map g.C.Calls.listed l.sessions))
