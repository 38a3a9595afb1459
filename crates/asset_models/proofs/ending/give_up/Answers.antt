use Rattle.std.proofs.lemmas.Result.{err_from_is_err_and}
use Rattle.asset_models.proofs.RunLemmas.{then_run, ended}
use Rattle.asset_models.specs.Courses.{give_up}
use Rattle.asset_models.specs.Follows.{model_end}
use Rattle.asset_models.proofs.ending.give_up.Goals as goal

pub returns-in_err-must : goal.returns-in_err-must
unfolding model_end give_up
returns-in_err-must g c =
    let p = err_from_is_err_and c.from_residual.result c.from_residual.ensures.1 in
    rw (p.1, p.2) (c.in_err-must.ensures.cut _)

pub returns : goal.returns
unfolding model_end give_up
returns g c =
    then_run (c.in_ok-must.ensures.follows _) _ _ (ended _ _)
