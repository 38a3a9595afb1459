use Rattle.std.proofs.Common.{sym, subst, rules}
use Rattle.asset_queue.specs.Each.{Each, IsAmong}
use Rattle.asset_queue.proofs.Eaches.{each_there}
use Rattle.asset_runner.proofs.plan.work.Goals as goal

pub returns-then-workers-eq0-clause-left : goal.returns-then-workers-eq0-clause-left
returns-then-workers-eq0-clause-left g c = each_there c.args.jobs.items

pub returns-in-Err-clause-left : goal.returns-in-Err-clause-left
returns-in-Err-clause-left g c = subst (λ l. Each (IsAmong c.args.jobs.items) l) (sym c.in-Err.ensures.err) (each_there c.args.jobs.items)

pub returns-after-is_empty-clause-cause : goal.returns-after-is_empty-clause-cause
returns-after-is_empty-clause-cause g c = search rules
