use Rattle.std.proofs.Common.{◌≡◌, [], map}
use Rattle.crossbeam_queue.specs.Passes.{view, IsPassOf}
use Rattle.asset_queue.specs.Each.{Each}
use Rattle.asset_queue.specs.Once.{hand}
use Rattle.asset_queue.specs.Rows.{Came}
use Rattle.asset_queue.proofs.work.take_all.Given as goal

abbrev pub invariant-loop : goal.invariant-loop
invariant-loop g l = IsPassOf l.jobs l.pass × (view l.pass ≡ hand (view l.fn.pass).parts [] (map g.E.Ticketed.ticket l.ends.items)) × Each (Came g.O.Origin.from g.J.Ticketed.ticket g.E.Ticketed.ticket g.W.Work.came) l.ends.items
