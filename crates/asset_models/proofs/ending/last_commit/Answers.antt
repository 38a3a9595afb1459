use Rattle.std.proofs.lemmas.Result.{err_from_is_err_and}
use Rattle.asset_models.proofs.RunLemmas.{then_run, worked, not_worked, ended}
use Rattle.asset_models.specs.Courses.{last_commit}
use Rattle.asset_models.specs.Follows.{model_end}
use Rattle.asset_models.proofs.ending.last_commit.Goals as goal

pub returns-in_err-commit : goal.returns-in_err-commit
unfolding model_end last_commit
returns-in_err-commit g c =
    let p = err_from_is_err_and c.from_residual.result c.from_residual.ensures.1 in
    rw (p.1, p.2) (c.in_err-commit.ensures.cut _ _)

pub returns-then-branch : goal.returns-then-branch
unfolding model_end last_commit
returns-then-branch g c =
    then_run (worked _ _ c.if-branch.true (c.in_ok-commit.ensures.follows _ _)) _ _ (ended _ _)

pub returns : goal.returns
unfolding model_end last_commit
returns g c =
    then_run (not_worked _ _ c.if-branch.false (c.in_ok-commit.ensures.follows _ _)) _ _ (ended _ _)
