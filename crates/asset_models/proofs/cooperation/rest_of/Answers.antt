use Rattle.asset_models.specs.Follows.{after_acts}
use Rattle.asset_models.proofs.RunLemmas.{worked, not_worked}
use Rattle.asset_models.proofs.cooperation.rest_of.Goals as goal

pub returns-in-Ok-true-clause-follows : goal.returns-in-Ok-true-clause-follows
unfolding after_acts
returns-in-Ok-true-clause-follows g c = λ next failed. worked _ _ c.in-Ok-true.field-0-test (c.in-Ok-true.ensures.follows next failed)

pub returns-in-Ok-false-clause-follows : goal.returns-in-Ok-false-clause-follows
unfolding after_acts
returns-in-Ok-false-clause-follows g c = λ next failed. not_worked _ _ c.in-Ok-false.field-0-test (c.in-Ok-false.ensures.follows next failed)
