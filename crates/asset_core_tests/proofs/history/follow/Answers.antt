use Rattle.std.proofs.Common.{sym, ap, ◌∙◌}
use Rattle.asset_entries.specs.Recorded.{Recorded, after, with_entry}
use Rattle.asset_core_tests.proofs.history.follow.Goals as goal

pub returns-in-Ok-Answer : goal.returns-in-Ok-Answer
unfolding after
returns-in-Ok-Answer c = λ _.
    let grown = rw c.in-Ok-Answer.field-0-is at c.in-Ok-Answer.ensures.grown in
    c.append.ensures ∙ ap (λ (h : Recorded). with_entry h c.args.step.now c.in-Ok-Answer.reply) c.requires ∙ sym grown
