use Rattle.std.proofs.Common.{◌∙◌, refl}
use Rattle.asset_names.specs.Answers.{missing_in}
use Rattle.asset_steps.proofs.AnswerLemmas.{missing_shown}
use Rattle.asset_steps.proofs.answering.missing.Goals as goal

pub returns-in-All : goal.returns-in-All
unfolding missing_in
returns-in-All c = λ opening steps stand. rw c.in-All.is refl

pub returns-in-Listed : goal.returns-in-Listed
unfolding missing_in
returns-in-Listed c = λ opening steps stand. rw (c.in-Listed.is, ← c.objects.ensures.listed) (c.first_missing.ensures ∙ missing_shown opening steps c.args.tables.now _ stand)
