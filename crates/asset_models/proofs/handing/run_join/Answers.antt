use Rattle.std.proofs.lemmas.Result.{err_from_is_err_and}
use Rattle.asset_models.proofs.RunLemmas.{then_run}
use Rattle.asset_models.specs.Courses.{join_course}
use Rattle.asset_models.specs.Follows.{model_end}
use Rattle.asset_models.proofs.handing.run_join.Goals as goal

pub returns-in_err-must_each : goal.returns-in_err-must_each
unfolding model_end join_course
returns-in_err-must_each g c =
    let p = err_from_is_err_and c.from_residual.result c.from_residual.ensures.1 in
    rw (p.1, p.2) (c.in_err-must_each.ensures.cut _)

pub returns : goal.returns
unfolding model_end join_course
returns g c =
    then_run (c.in_ok-must_each.ensures.follows _) _ _ c.last_commit.ensures
