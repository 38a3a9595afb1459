use Rattle.asset_models.proofs.RunLemmas.{acts_done, acts_failed, acts_cut, no_act_left, then, then_run}
use Rattle.asset_models.proofs.asking.do_acts.Goals as goal

pub returns-in-Ok-false-clause-follows : goal.returns-in-Ok-false-clause-follows
returns-in-Ok-false-clause-follows g c = λ next failed.
    then (c.acts.invariant next failed)
    (acts_failed _ _ _ _ c.in-Some.ensures.cases.0 c.in-Ok-false.field-0 c.in-Ok-false.field-0-test next failed _ _ c.in-Ok-false.ensures.follows)

pub returns-in-Err-clause-cut : goal.returns-in-Err-clause-cut
returns-in-Err-clause-cut g c = λ next failed.
    then_run (c.acts.invariant next failed) _ _ (acts_cut _ _ _ _ c.in-Some.ensures.cases.0 next failed _ _ _ c.in-Err.ensures.cut)

pub acts-preserved : goal.acts-preserved
acts-preserved g c = λ next failed.
    then (c.acts.invariant next failed)
    (acts_done _ _ _ _ c.in-Some.ensures.cases.0 c.in-Ok-true.field-0 c.in-Ok-true.field-0-test next failed _ _ c.in-Ok-true.ensures.follows)

pub returns-clause-follows : goal.returns-clause-follows
returns-clause-follows g c = λ next failed. then (c.acts.invariant next failed) (no_act_left _ _ c.in_default.ensures.cases next failed _)
