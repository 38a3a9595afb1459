use Rattle.std.proofs.Common.{map, subst}
use Rattle.asset_queue.specs.Once.{SharedOut}
use Rattle.asset_queue.specs.Rows.{tickets_of}
use Rattle.asset_runner.specs.Arrived.{ticket_of}
use Rattle.asset_runner.proofs.ArrivedLemmas.{cause_so}
use Rattle.asset_runner.proofs.RunLemmas.{runs_of_jobs, left_of_jobs, somebody_left}
use Rattle.asset_runner.proofs.plan.run_jobs.Goals as goal

pub gather-requires-clause-shared : goal.gather-requires-clause-shared
gather-requires-clause-shared g c =
    subst (λ tickets. SharedOut tickets (tickets_of ticket_of c.work-rows.result.rows.items) (map (λ j. (j.place, j.name.0)) c.work-rows.result.left.items)) c.requires.tickets c.work-rows.ensures.shared

pub returns-clause-ran : goal.returns-clause-ran
returns-clause-ran g c =
    runs_of_jobs (λ j. j.place) (λ j. j.name) (λ j. j.body) (λ j. j.session) _ _ c.args.names.now c.args.jobs.items c.work-rows.result.left.items c.work-rows.result.rows.items c.gather.result.items
    c.requires.tickets c.work-rows.ensures.came c.work-rows.ensures.left c.gather.ensures.back

pub returns-clause-left : goal.returns-clause-left
returns-clause-left g c =
    left_of_jobs (λ j. j.place) (λ j. j.name) (λ j. j.body) (λ j. j.session) _ _ c.args.names.now c.args.jobs.items c.work-rows.result.left.items c.work-rows.result.rows.items c.gather.result.items
    c.requires.tickets c.work-rows.ensures.came c.work-rows.ensures.left c.gather.ensures.back c.gather.ensures.names

pub returns-clause-cause : goal.returns-clause-cause
returns-clause-cause g c =
    cause_so _ _ _ c.work-rows.result.cause
    (somebody_left (λ j. j.place) (λ j. j.name) (λ j. j.body) (λ j. j.session) c.args.names.now c.args.jobs.items c.work-rows.result.left.items c.work-rows.result.rows.items c.gather.result.items
    c.requires.tickets c.work-rows.ensures.shared c.gather.ensures.back c.gather.ensures.names)
    c.work-rows.ensures.cause
