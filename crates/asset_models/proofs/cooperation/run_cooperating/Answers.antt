use Rattle.std.proofs.lemmas.Result.{err_from_is_err_and}
use Rattle.asset_models.specs.Courses.{cooperating_course, give_up}
use Rattle.asset_models.specs.Follows.{model_end}
use Rattle.asset_models.proofs.RunLemmas.{then_run}
use Rattle.asset_models.proofs.TogetherLemmas.{none_failed, some_failed}
use Rattle.asset_models.proofs.cooperation.run_cooperating.Goals as goal

pub returns-in_err-must_each : goal.returns-in_err-must_each
unfolding model_end cooperating_course
returns-in_err-must_each g c =
    let p = err_from_is_err_and c.from_residual.result c.from_residual.ensures.1 in
    rw (p.1, p.2) (c.in_err-must_each.ensures.cut _)

pub returns-in_err-join_pair : goal.returns-in_err-join_pair
unfolding model_end cooperating_course
returns-in_err-join_pair g c =
    let p = err_from_is_err_and c.from_residual-in_err-join_pair.result c.from_residual-in_err-join_pair.ensures.1 in
    rw (p.1, p.2) (then_run (c.in_ok-must_each.ensures.follows _) _ _ (c.in_err-join_pair.ensures.cut _))

pub returns-in_err-pair_in_turn : goal.returns-in_err-pair_in_turn
unfolding model_end cooperating_course
returns-in_err-pair_in_turn g c =
    let p = err_from_is_err_and c.from_residual-in_err-pair_in_turn.result c.from_residual-in_err-pair_in_turn.ensures.1 in
    rw (p.1, p.2) (then_run (c.in_ok-must_each.ensures.follows _) _ _ (then_run (c.in_ok-join_pair.ensures.follows _) _ _ (c.in_err-pair_in_turn.ensures.cut _ _)))

pub returns-in-Some : goal.returns-in-Some
unfolding model_end cooperating_course
returns-in-Some g c =
    then_run (c.in_ok-must_each.ensures.follows _) _ _ (then_run (c.in_ok-join_pair.ensures.follows _) _ _ (then_run (some_failed _ give_up _ _ c.in-Some.is (c.in_ok-pair_in_turn.ensures.follows _ give_up)) _ _ c.give_up.ensures))

pub returns-in_err-must_each-2 : goal.returns-in_err-must_each-2
unfolding model_end cooperating_course
returns-in_err-must_each-2 g c =
    let p = err_from_is_err_and c.from_residual-in_err-must_each-2.result c.from_residual-in_err-must_each-2.ensures.1 in
    rw (p.1, p.2) (then_run (c.in_ok-must_each.ensures.follows _) _ _ (then_run (c.in_ok-join_pair.ensures.follows _) _ _ (then_run (none_failed give_up _ c.in-None.is (c.in_ok-pair_in_turn.ensures.follows _ give_up)) _ _ (c.in_err-must_each-2.ensures.cut _))))

pub returns : goal.returns
unfolding model_end cooperating_course
returns g c =
    then_run (c.in_ok-must_each.ensures.follows _) _ _ (then_run (c.in_ok-join_pair.ensures.follows _) _ _ (then_run (none_failed give_up _ c.in-None.is (c.in_ok-pair_in_turn.ensures.follows _ give_up)) _ _ (then_run (c.in_ok-must_each-2.ensures.follows _) _ _ c.last_commit.ensures)))
