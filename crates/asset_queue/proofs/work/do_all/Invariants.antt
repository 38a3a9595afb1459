use Rattle.std.proofs.Common.{◌≡◌, ◌≤◌, ◌++◌, map, length}
use Rattle.std.specs.Prelude.{vec_capacity}
use Rattle.asset_queue.specs.Each.{Each, IsAmong}
use Rattle.asset_queue.specs.Rows.{Came}
use Rattle.asset_queue.proofs.work.do_all.Given as goal

abbrev pub invariant-loop-job : goal.invariant-loop-job
invariant-loop-job g l =
    (l.yielded ++ l.job-iterator.rest.items ≡ l.fn.all.items) × (map g.E.Ticketed.ticket l.ends.items ≡ map g.J.Ticketed.ticket l.yielded) × (length l.fn.all.items ≤ vec_capacity l.ends) × Each (Came (IsAmong l.fn.all.items) g.J.Ticketed.ticket g.E.Ticketed.ticket g.W.Work.came) l.ends.items
