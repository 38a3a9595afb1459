use Rattle.std.proofs.Common.{◌≡◌, ◌≤◌, ◌++◌, length, map}
use Rattle.std.specs.Prelude.{vec_capacity}
use Rattle.crossbeam_queue.specs.Passes.{view, IsPassOf}
use Rattle.asset_queue.specs.Each.{Each}
use Rattle.asset_queue.specs.Once.{hand}
use Rattle.asset_queue.proofs.work.drain.Given as goal

abbrev pub invariant-loop : goal.invariant-loop
invariant-loop g l =
    IsPassOf l.jobs l.pass
    × (view l.pass ≡ hand 128 (view l.fn.pass).put ((view l.fn.pass).taken ++ map g.J.Ticketed.ticket l.left.items))
    × (length (view l.fn.pass).put ≤ vec_capacity l.left)
    × Each g.O.Origin.from l.left.items
