use Rattle.asset_names.specs.declared.steps.Step.TheVariants.{Complete}
use Rattle.asset_models.specs.declared.parts.Part.{Part}
use Rattle.asset_models.proofs.RunLemmas.{then, then_run}
use Rattle.asset_models.proofs.TogetherLemmas.{each_part, each_part_cut, no_part_left}
use Rattle.asset_models.proofs.together.complete_each.Goals as goal

pub returns-in-Err-clause-cut : goal.returns-in-Err-clause-cut
returns-in-Err-clause-cut g c = λ next. then_run (c.parts.invariant next) _ _ (each_part_cut (λ (q : Part). Complete q.name) _ _ _ c.in-Some.ensures.cases.0 next _ _ _ c.in-Err.ensures.cut)

pub parts-preserved : goal.parts-preserved
parts-preserved g c = λ next. then (c.parts.invariant next) (each_part (λ (q : Part). Complete q.name) _ _ _ c.in-Some.ensures.cases.0 next _ _ c.in-Ok.ensures.follows)

pub returns-clause-follows : goal.returns-clause-follows
returns-clause-follows g c = λ next. then (c.parts.invariant next) (no_part_left (λ (q : Part). Complete q.name) _ c.in_default.ensures.cases next _)
