use Rattle.std.proofs.lemmas.Result.{err_from_is_err_and}
use Rattle.asset_models.specs.Follows.{model_end}
use Rattle.asset_models.specs.Courses.{give_up}
use Rattle.asset_models.proofs.RunLemmas.{then_run}
use Rattle.asset_models.proofs.TogetherLemmas.{distributed_at, distributed_none, none_failed, some_failed}
use Rattle.asset_models.proofs.together.run_distributed.Goals as goal

pub returns-in_err-start_each-in-Some : goal.returns-in_err-start_each-in-Some
unfolding model_end
returns-in_err-start_each-in-Some g c =
    let p = err_from_is_err_and c.from_residual.result c.from_residual.ensures.1 in
    rw (p.1, p.2, distributed_at _ _ _ c.in-Some.ensures.cases.0) (c.in_err-start_each-in-Some.ensures.cut _)

pub returns-in_err-join_each-in-Some : goal.returns-in_err-join_each-in-Some
unfolding model_end
returns-in_err-join_each-in-Some g c =
    let p = err_from_is_err_and c.from_residual-in_err-join_each-in-Some.result c.from_residual-in_err-join_each-in-Some.ensures.1 in
    rw (p.1, p.2, distributed_at _ _ _ c.in-Some.ensures.cases.0) (then_run (c.in_ok-start_each-in-Some.ensures.follows _) _ _ (c.in_err-join_each-in-Some.ensures.cut _))

pub returns-in_err-do_each-in-Some : goal.returns-in_err-do_each-in-Some
unfolding model_end
returns-in_err-do_each-in-Some g c =
    let p = err_from_is_err_and c.from_residual-in_err-do_each-in-Some.result c.from_residual-in_err-do_each-in-Some.ensures.1 in
    rw (p.1, p.2, distributed_at _ _ _ c.in-Some.ensures.cases.0) (then_run (c.in_ok-start_each-in-Some.ensures.follows _) _ _ (then_run (c.in_ok-join_each-in-Some.ensures.follows _) _ _ (c.in_err-do_each-in-Some.ensures.cut _ _)))

pub returns-in-Some-2 : goal.returns-in-Some-2
unfolding model_end
returns-in-Some-2 g c =
    rw (distributed_at _ _ _ c.in-Some.ensures.cases.0) (then_run (c.in_ok-start_each-in-Some.ensures.follows _) _ _ (then_run (c.in_ok-join_each-in-Some.ensures.follows _) _ _ (then_run (some_failed _ give_up _ _ c.in-Some-2.is (c.in_ok-do_each-in-Some.ensures.follows _ give_up)) _ _ c.give_up.ensures)))

pub returns-in_err-complete_each-in-Some : goal.returns-in_err-complete_each-in-Some
unfolding model_end
returns-in_err-complete_each-in-Some g c =
    let p = err_from_is_err_and c.from_residual-in_err-complete_each-in-Some.result c.from_residual-in_err-complete_each-in-Some.ensures.1 in
    rw (p.1, p.2, distributed_at _ _ _ c.in-Some.ensures.cases.0) (then_run (c.in_ok-start_each-in-Some.ensures.follows _) _ _ (then_run (c.in_ok-join_each-in-Some.ensures.follows _) _ _ (then_run (none_failed give_up _ c.in-None-2.is (c.in_ok-do_each-in-Some.ensures.follows _ give_up)) _ _ (c.in_err-complete_each-in-Some.ensures.cut _))))

pub returns-in_ok-complete_each-in-Some : goal.returns-in_ok-complete_each-in-Some
unfolding model_end
returns-in_ok-complete_each-in-Some g c =
    rw (distributed_at _ _ _ c.in-Some.ensures.cases.0) (then_run (c.in_ok-start_each-in-Some.ensures.follows _) _ _ (then_run (c.in_ok-join_each-in-Some.ensures.follows _) _ _ (then_run (none_failed give_up _ c.in-None-2.is (c.in_ok-do_each-in-Some.ensures.follows _ give_up)) _ _ (then_run (c.in_ok-complete_each-in-Some.ensures.follows _) _ _ c.last_commit.ensures))))

pub returns-in-None : goal.returns-in-None
unfolding model_end
returns-in-None g c = distributed_none _ c.in-None.ensures.cases _
