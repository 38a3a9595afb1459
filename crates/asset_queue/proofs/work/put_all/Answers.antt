use Rattle.std.proofs.Common.{map, ap, length, arith}
use Rattle.std.proofs.lemmas.List.{length-append, length-map}
use Rattle.asset_queue.proofs.Eaches.{each_among, next_among}
use Rattle.asset_queue.proofs.Moves.{puts, learns}
use Rattle.asset_queue.proofs.Takings.{all_held}
use Rattle.asset_queue.proofs.work.put_all.Goals as goal

pub push_as-requires-clause-rule : goal.push_as-requires-clause-rule
push_as-requires-clause-rule g c =
    (puts g.J.Ticketed.ticket g.O.Origin.from _ _ _ _ (omega (arith, ap (λ v. v.parts) c.loop-job.invariant.1)) (each_among g.O.Origin.from c.args.all.items c.in-Some.job c.requires.from (next_among _ _ _ _ _ c.loop-job.invariant.2 c.in-Some.ensures.steps.0)), learns g.J.Ticketed.ticket g.O.Origin.from _ _)

pub unreachable-requires : goal.unreachable-requires
unreachable-requires g c =
    let held = c.in-Err.ensures.rule.2 in
    let put = map g.J.Ticketed.ticket c.loop-job.yielded in
    let as_many = all_held _ (map g.J.Ticketed.ticket held.0) put c.loop-job.invariant.1 held.2 in
    omega (
      arith,
      as_many,
      held.1,
      length-map held.0 g.J.Ticketed.ticket,
      length-map c.loop-job.yielded g.J.Ticketed.ticket,
      ap length c.in-Some.ensures.steps.0,
      ap length c.loop-job.invariant.2,
      length-append c.loop-job.yielded c.loop-job.job-iterator.rest.items,
      c.args.all.ok,
      c.requires.room,
    )
