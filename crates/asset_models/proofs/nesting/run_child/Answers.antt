use Rattle.std.proofs.lemmas.Result.{err_from_is_err_and}
use Rattle.asset_models.proofs.RunLemmas.{then, then_run, worked, not_worked}
use Rattle.asset_models.specs.Courses.{child_course}
use Rattle.asset_models.proofs.RunLemmas.{either_way}
use Rattle.asset_models.proofs.nesting.run_child.Goals as goal

pub returns-in_err-must_each-clause-cut : goal.returns-in_err-must_each-clause-cut
unfolding child_course
returns-in_err-must_each-clause-cut g c =
    let p = err_from_is_err_and c.from_residual.result c.from_residual.ensures.1 in
    rw (p.1, p.2) (λ next. (rw c.all_operations-ops.ensures at c.in_err-must_each.ensures.cut) _)

pub returns-in_err-do_part-clause-cut : goal.returns-in_err-do_part-clause-cut
unfolding child_course
returns-in_err-do_part-clause-cut g c =
    let p = err_from_is_err_and c.from_residual-in_err-do_part.result c.from_residual-in_err-do_part.ensures.1 in
    rw (p.1, p.2) (λ next. then_run ((rw c.all_operations-ops.ensures at c.in_ok-must_each.ensures.follows) _) _ _ (c.in_err-do_part.ensures.cut _ _))

pub returns-in_err-must-clause-cut : goal.returns-in_err-must-clause-cut
unfolding child_course
returns-in_err-must-clause-cut g c =
    let p = err_from_is_err_and c.from_residual-in_err-must.result c.from_residual-in_err-must.ensures.1 in
    rw (p.1, p.2) (λ next. then_run ((rw c.all_operations-ops.ensures at c.in_ok-must_each.ensures.follows) _) _ _ (then_run (not_worked _ _ c.if-not-branch.true (c.in_ok-do_part.ensures.follows _ _)) _ _ (c.in_err-must.ensures.cut _)))

pub returns-then-not-branch-clause-follows : goal.returns-then-not-branch-clause-follows
unfolding child_course
returns-then-not-branch-clause-follows g c =
    λ next. then ((rw c.all_operations-ops.ensures at c.in_ok-must_each.ensures.follows) _) (then (not_worked _ _ c.if-not-branch.true (c.in_ok-do_part.ensures.follows _ _)) (c.in_ok-must.ensures.follows _))

pub returns-in_err-must_each-2-clause-cut : goal.returns-in_err-must_each-2-clause-cut
unfolding child_course
returns-in_err-must_each-2-clause-cut g c =
    let p = err_from_is_err_and c.from_residual-in_err-must_each-2.result c.from_residual-in_err-must_each-2.ensures.1 in
    rw (p.1, p.2) (λ next. then_run ((rw c.all_operations-ops.ensures at c.in_ok-must_each.ensures.follows) _) _ _ (then_run (worked _ _ c.if-not-branch.false (c.in_ok-do_part.ensures.follows _ _)) _ _ (c.in_err-must_each-2.ensures.cut _)))

pub returns-in_err-commit-clause-cut : goal.returns-in_err-commit-clause-cut
unfolding child_course
returns-in_err-commit-clause-cut g c =
    let p = err_from_is_err_and c.from_residual-in_err-commit.result c.from_residual-in_err-commit.ensures.1 in
    rw (p.1, p.2) (λ next. then_run ((rw c.all_operations-ops.ensures at c.in_ok-must_each.ensures.follows) _) _ _ (then_run (worked _ _ c.if-not-branch.false (c.in_ok-do_part.ensures.follows _ _)) _ _ (then_run (c.in_ok-must_each-2.ensures.follows _) _ _ (c.in_err-commit.ensures.cut _ _))))

pub returns-clause-follows : goal.returns-clause-follows
unfolding child_course
returns-clause-follows g c =
    λ next. then ((rw c.all_operations-ops.ensures at c.in_ok-must_each.ensures.follows) _) (then (worked _ _ c.if-not-branch.false (c.in_ok-do_part.ensures.follows _ _)) (then (c.in_ok-must_each-2.ensures.follows _) (either_way _ (c.in_ok-commit.ensures.follows next next))))
