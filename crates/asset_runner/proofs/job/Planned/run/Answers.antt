use Rattle.std.proofs.Common.{◌≡◌, Some, ap, ◌∙◌, rules}
use Rattle.std.specs.Arc.{arc_value}
use base.Stored.{Coded-set}
use Rattle.std.specs.Coded.{coded_option}
use Rattle.std.proofs.Math.Logic.{∥∥₁_elim}
use Rattle.atomic_table.specs.Seated.{table_id_coded}
use Rattle.asset_runner.proofs.job.Planned.run.Goals as goal

pub called-requires : goal.called-requires
called-requires g c =
    let of : c.new-in-Ok-Answer-Done.result.manager ≡ arc_value c.args.self.manager = c.new-in-Ok-Answer-Done.ensures.own.1 ∙ c.new.ensures.0 ∙ c.args.self.one in
    ∥∥₁_elim c.args.self.same (Coded-set (coded_option table_id_coded) _ _) (λ s. s c.new-in-Ok-Answer-Done.result c.call_once-finished.result of c.call_once-finished.ensures ∙ ap Some of)

pub returns-in-Ok-Answer-Done-clause-place : goal.returns-in-Ok-Answer-Done-clause-place
returns-in-Ok-Answer-Done-clause-place g c = search rules

pub returns-in-Ok-Answer-Done-clause-called : goal.returns-in-Ok-Answer-Done-clause-called
returns-in-Ok-Answer-Done-clause-called g c =
    rw c.called.ensures.answered.0 (record { calls = search rules; waiting = c.called.ensures.waiting })
