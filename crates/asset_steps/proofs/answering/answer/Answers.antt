use Rattle.std.proofs.Common.{sym, refl}
use Rattle.asset_names.specs.Answers.{answer, outcome_unless}
use Rattle.asset_steps.proofs.answering.answer.Goals as goal

pub returns-in-Some-clause-answer : goal.returns-in-Some-clause-answer
unfolding answer outcome_unless
returns-in-Some-clause-answer c = λ opening steps stand. rw (← c.refusal.ensures.refusal opening steps stand, c.in-Some.is) refl

pub returns-in-None-clause-answer : goal.returns-in-None-clause-answer
unfolding answer outcome_unless
returns-in-None-clause-answer c = λ opening steps stand.
    let none = rw c.in-None.is at (c.refusal.ensures.refusal opening steps stand) in
    rw (← none) ((rw c.refusal.ensures.same at c.unrefused.ensures.outcome) opening steps stand (sym none))
