use Rattle.std.proofs.lemmas.Result.{err_from_is_err_and}
use Rattle.asset_models.proofs.RunLemmas.{then, then_run}
use Rattle.asset_models.specs.Courses.{must_each_course, joins}
use Rattle.asset_models.proofs.cooperation.join_pair.Goals as goal

pub returns-in_err-permit_on-clause-cut : goal.returns-in_err-permit_on-clause-cut
unfolding must_each_course joins
returns-in_err-permit_on-clause-cut g c =
    let p = err_from_is_err_and c.from_residual.result c.from_residual.ensures.1 in
    rw (p.1, p.2) (λ next. c.in_err-permit_on.ensures.cut _)

pub returns-in_err-permit_on-2-clause-cut : goal.returns-in_err-permit_on-2-clause-cut
unfolding must_each_course joins
returns-in_err-permit_on-2-clause-cut g c =
    let p = err_from_is_err_and c.from_residual-in_err-permit_on-2.result c.from_residual-in_err-permit_on-2.ensures.1 in
    rw (p.1, p.2) (λ next. then_run (c.in_ok-permit_on.ensures.follows _) _ _ (c.in_err-permit_on-2.ensures.cut _))

pub returns-in_err-must-clause-cut : goal.returns-in_err-must-clause-cut
unfolding must_each_course joins
returns-in_err-must-clause-cut g c =
    let p = err_from_is_err_and c.from_residual-in_err-must.result c.from_residual-in_err-must.ensures.1 in
    rw (p.1, p.2) (λ next. then_run (c.in_ok-permit_on.ensures.follows _) _ _ (then_run (c.in_ok-permit_on-2.ensures.follows _) _ _ (c.in_err-must.ensures.cut next)))

pub returns-clause-follows : goal.returns-clause-follows
unfolding must_each_course joins
returns-clause-follows g c = λ next. then (c.in_ok-permit_on.ensures.follows _) (then (c.in_ok-permit_on-2.ensures.follows _) (c.in_ok-must.ensures.follows next))
