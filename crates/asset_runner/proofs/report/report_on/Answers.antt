use Rattle.std.proofs.Common.{◌++◌, ◌∷◌, [], map, ap, ◌∙◌}
use Rattle.asset_manager.specs.Asker.{Asker}
use Rattle.asset_runner.specs.Runs.{JobRun, ends_of, first_stranger}
use Rattle.asset_runner.specs.Rows.{runs_of}
use Rattle.asset_runner.proofs.ArrivedLemmas.{names_runs, names_left}
use Rattle.asset_runner.proofs.report.report_on.Goals as goal

pub returns-clause-comes : goal.returns-clause-comes
returns-clause-comes g c =
    let runs = runs_of c.args.order.items in
    let first = c.push_reserved.ensures.items ∙ ap (λ l. l ++ c.args.session ∷ []) c.requires.empty.2 in
    record {
      names_are = names_runs c.args.order.items;
      ends_are = c.ends_of-ends.ensures ∙ ap (λ l. ends_of (runs_of l) (runs_of l)) c.deref-2.ensures.value;
      left_are = names_left (λ j. j.name) (λ j. j.body) c.hand_out-handed.result.0.items c.args.order.items c.hand_out-handed.ensures.left;
      sessions_are = c.hand_out-handed.ensures.sessions ∙ ap (λ l. map (λ (s : Asker). s.list.calls) l ++ map (λ (s : JobRun). s.calls) runs) first;
    }

pub returns-clause-stranger : goal.returns-clause-stranger
returns-clause-stranger g c = c.first_stranger-stranger.ensures ∙ ap (λ l. first_stranger (runs_of l)) c.deref-3.ensures.value
