use Rattle.asset_models.specs.Follows.{after_acts}
use Rattle.asset_models.proofs.RunLemmas.{then, then_run}
use Rattle.asset_models.proofs.TogetherLemmas.{part_done, part_failed, part_acts_cut, no_acts_left}
use Rattle.asset_models.proofs.together.do_each.Goals as goal

pub returns-in-Ok-false-clause-follows : goal.returns-in-Ok-false-clause-follows
unfolding after_acts
returns-in-Ok-false-clause-follows g c = λ next failed. then (c.parts.invariant next failed) (part_failed _ _ _ c.in-Some.ensures.cases.0 c.in-Ok-false.field-0 c.in-Ok-false.field-0-test next failed _ _ c.in-Ok-false.ensures.follows)

pub returns-in-Err-clause-cut : goal.returns-in-Err-clause-cut
returns-in-Err-clause-cut g c = λ next failed. then_run (c.parts.invariant next failed) _ _ (part_acts_cut _ _ _ c.in-Some.ensures.cases.0 next failed _ _ _ c.in-Err.ensures.cut)

pub parts-preserved : goal.parts-preserved
parts-preserved g c = λ next failed. then (c.parts.invariant next failed) (part_done _ _ _ c.in-Some.ensures.cases.0 c.in-Ok-true.field-0 c.in-Ok-true.field-0-test next failed _ _ c.in-Ok-true.ensures.follows)

pub returns-clause-follows : goal.returns-clause-follows
unfolding after_acts
returns-clause-follows g c = λ next failed. then (c.parts.invariant next failed) (no_acts_left _ c.in_default.ensures.cases next failed _)
