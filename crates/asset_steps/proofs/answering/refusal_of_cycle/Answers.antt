use Rattle.std.proofs.Common.{refl}
use Rattle.asset_names.specs.Answers.{first_refusal, cycle}
use Rattle.asset_steps.proofs.answering.refusal_of_cycle.Goals as goal

pub returns-then-would_cycle-clause-refusal : goal.returns-then-would_cycle-clause-refusal
unfolding first_refusal cycle
returns-then-would_cycle-clause-refusal c = λ opening steps stand. rw (← c.if-would_cycle.ensures.shown opening steps stand) refl

pub returns-else-would_cycle-clause-refusal : goal.returns-else-would_cycle-clause-refusal
unfolding first_refusal cycle
returns-else-would_cycle-clause-refusal c = λ opening steps stand. rw (← c.if-would_cycle.ensures.shown opening steps stand) refl
