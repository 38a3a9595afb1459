use Rattle.std.proofs.Common.{rules}
use Rattle.asset_bodies.proofs.ends.job_end.Goals as goal

pub calls-init : goal.calls-init
calls-init c = search rules
