use Rattle.asset_models.specs.declared.parts.Part.{Part}
use Rattle.asset_models.specs.Courses.{starts}
use Rattle.asset_models.proofs.RunLemmas.{then, then_run}
use Rattle.asset_models.proofs.TogetherLemmas.{parts_step, parts_cut, no_parts}
use Rattle.asset_models.proofs.together.start_each.Goals as goal

pub returns-in-Err-clause-cut : goal.returns-in-Err-clause-cut
unfolding starts
returns-in-Err-clause-cut g c = λ next. then_run (c.parts.invariant next) _ _ (parts_cut (λ (q : Part). starts q.name) _ _ _ c.in-Some.ensures.cases.0 next _ _ _ c.in-Err.ensures.cut)

pub parts-preserved : goal.parts-preserved
unfolding starts
parts-preserved g c = λ next. then (c.parts.invariant next) (parts_step (λ (q : Part). starts q.name) _ _ _ c.in-Some.ensures.cases.0 next _ _ c.in-Ok.ensures.follows)

pub returns-clause-follows : goal.returns-clause-follows
returns-clause-follows g c = λ next. then (c.parts.invariant next) (no_parts (λ (q : Part). starts q.name) _ c.in_default.ensures.cases next _)
