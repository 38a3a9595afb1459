use Rattle.std.proofs.Common.{◌≡◌, ◌++◌, [], map}
use Rattle.crossbeam_queue.specs.Passes.{view, IsPassOf}
use Rattle.asset_queue.specs.Once.{hand}
use Rattle.asset_queue.proofs.work.put_all.Given as goal

abbrev pub invariant-loop-job : goal.invariant-loop-job
invariant-loop-job g l = IsPassOf l.jobs l.pass × (view l.pass ≡ hand 128 (map g.J.Ticketed.ticket l.yielded) []) × (l.yielded ++ l.job-iterator.rest.items ≡ l.fn.all.items)
