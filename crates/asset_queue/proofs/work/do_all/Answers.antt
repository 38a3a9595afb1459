use Rattle.std.proofs.Common.{◌++◌, ◌∷◌, [], sym, ap, ◌∙◌, append_assoc, arith}
use Rattle.asset_queue.specs.Each.{IsAmong}
use Rattle.asset_queue.specs.Rows.{Came}
use Rattle.asset_queue.proofs.Eaches.{each_pushed, maps_pushed, next_among}
use Rattle.asset_queue.proofs.work.do_all.Goals as goal

pub loop-job-preserved : goal.loop-job-preserved
loop-job-preserved g c =
    let all = c.args.all.items in (
      append_assoc c.loop-job.yielded (c.in-Some.job ∷ []) c.next.new.self.rest.items ∙ ap (λ l. c.loop-job.yielded ++ l) (sym c.in-Some.ensures.steps.0) ∙ c.loop-job.invariant.0,
      maps_pushed g.E.Ticketed.ticket g.J.Ticketed.ticket c.loop-job.ends.items c.push_reserved.new.self.items c.run.result c.loop-job.yielded c.in-Some.job c.push_reserved.ensures.items c.loop-job.invariant.1 c.run.ensures.ticket,
      omega (arith, c.push_reserved.ensures.capacity, c.loop-job.invariant.2),
      each_pushed (Came (IsAmong all) g.J.Ticketed.ticket g.E.Ticketed.ticket g.W.Work.came) c.loop-job.ends.items c.push_reserved.new.self.items c.run.result c.push_reserved.ensures.items c.loop-job.invariant.3
          (record { job = c.in-Some.job; one = next_among all _ _ _ _ c.loop-job.invariant.0 c.in-Some.ensures.steps.0; same = c.run.ensures.ticket; is = c.run.ensures.came }),
    )
