use Rattle.std.proofs.Common.{[], map, sym, refl, ap, ◌∙◌, arith}
use Rattle.std.proofs.lemmas.Grind.{common_steps}
use mathlib.Core.Logic.{inr}
use Rattle.asset_manager.specs.Asker.{Asker}
use Rattle.asset_runner.specs.Arrived.{numbered}
use Rattle.asset_runner.proofs.RunLemmas.{nothing_ran, nothing_left_among}
use Rattle.asset_runner.proofs.plan.Plan.run.Goals as goal

pub run_jobs-order-requires-clause-tickets : goal.run_jobs-order-requires-clause-tickets
run_jobs-order-requires-clause-tickets g c κs within = c.args.self.tickets ∙ ap numbered (sym c.deref.ensures.value)

pub returns-in_default-clause-err : goal.returns-in_default-clause-err
returns-in_default-clause-err g c =
    let lost = c.no_room.ensures.report in (
      [],
      inr (record { no_names = grind (arith, common_steps); no_runs = refl; no_ends = lost.0; none_left = ap (map (λ j. j.name)) lost.1; no_sessions = ap (map (λ (s : Asker). s.list.calls)) lost.2 }),
      c.no_room.ensures.cause,
      nothing_ran _ _,
      ap (map (λ l. (l.name, l.body))) lost.1 ∙ sym (nothing_left_among (λ j. j.name) (λ j. j.body) c.args.self.jobs.items),
    )
