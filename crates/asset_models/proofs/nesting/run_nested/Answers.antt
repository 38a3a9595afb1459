use Rattle.std.proofs.lemmas.Result.{err_from_is_err_and}
use Rattle.asset_models.proofs.RunLemmas.{then_run, worked, not_worked}
use Rattle.asset_models.specs.Courses.{nested_course, starts}
use Rattle.asset_models.specs.Follows.{model_end}
use Rattle.asset_models.proofs.nesting.run_nested.Goals as goal

pub returns-in_err-must_each : goal.returns-in_err-must_each
unfolding model_end nested_course starts
returns-in_err-must_each g c =
    let p = err_from_is_err_and c.from_residual.result c.from_residual.ensures.1 in
    rw (p.1, p.2) (c.in_err-must_each.ensures.cut _)

pub returns-in_err-do_part : goal.returns-in_err-do_part
unfolding model_end nested_course starts
returns-in_err-do_part g c =
    let p = err_from_is_err_and c.from_residual-in_err-do_part.result c.from_residual-in_err-do_part.ensures.1 in
    rw (p.1, p.2) (then_run (c.in_ok-must_each.ensures.follows _) _ _ (c.in_err-do_part.ensures.cut _ _))

pub returns-then-not-branch : goal.returns-then-not-branch
unfolding model_end nested_course starts
returns-then-not-branch g c =
    then_run (c.in_ok-must_each.ensures.follows _) _ _ (then_run (not_worked _ _ c.if-not-branch.true (c.in_ok-do_part.ensures.follows _ _)) _ _ c.give_up.ensures)

pub returns-in_err-run_children : goal.returns-in_err-run_children
unfolding model_end nested_course starts
returns-in_err-run_children g c =
    let p = err_from_is_err_and c.from_residual-in_err-run_children.result c.from_residual-in_err-run_children.ensures.1 in
    rw (p.1, p.2) (then_run (c.in_ok-must_each.ensures.follows _) _ _ (then_run (worked _ _ c.if-not-branch.false (c.in_ok-do_part.ensures.follows _ _)) _ _ (c.in_err-run_children.ensures.cut _)))

pub returns-in_err-must : goal.returns-in_err-must
unfolding model_end nested_course starts
returns-in_err-must g c =
    let p = err_from_is_err_and c.from_residual-in_err-must.result c.from_residual-in_err-must.ensures.1 in
    rw (p.1, p.2) (then_run (c.in_ok-must_each.ensures.follows _) _ _ (then_run (worked _ _ c.if-not-branch.false (c.in_ok-do_part.ensures.follows _ _)) _ _ (then_run (c.in_ok-run_children.ensures.follows _) _ _ (c.in_err-must.ensures.cut _))))

pub returns : goal.returns
unfolding model_end nested_course starts
returns g c =
    then_run (c.in_ok-must_each.ensures.follows _) _ _ (then_run (worked _ _ c.if-not-branch.false (c.in_ok-do_part.ensures.follows _ _)) _ _ (then_run (c.in_ok-run_children.ensures.follows _) _ _ (then_run (c.in_ok-must.ensures.follows _) _ _ c.last_commit.ensures)))
