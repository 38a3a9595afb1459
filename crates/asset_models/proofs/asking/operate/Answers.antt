use Rattle.std.proofs.Common.{◌≡◌, true, false}
use Rattle.asset_models.specs.Courses.{is_refusal, operation_course}
use Rattle.asset_models.proofs.RunLemmas.{operation_follows, cut_short}
use Rattle.asset_models.proofs.asking.operate.Goals as goal

pub returns-then-is_refusal-clause-follows : goal.returns-then-is_refusal-clause-follows
returns-then-is_refusal-clause-follows g c =
    let refused : is_refusal c.in-Ok.reply ≡ true = cc in
    λ next failed. rw refused at (operation_follows _ _ _ _ c.in-Ok.ensures.answered next failed)

pub returns-else-is_refusal-clause-follows : goal.returns-else-is_refusal-clause-follows
returns-else-is_refusal-clause-follows g c =
    let accepted : is_refusal c.in-Ok.reply ≡ false = cc in
    λ next failed. rw accepted at (operation_follows _ _ _ _ c.in-Ok.ensures.answered next failed)

pub returns-in-Err-clause-cut : goal.returns-in-Err-clause-cut
unfolding operation_course
returns-in-Err-clause-cut g c = λ next failed. cut_short _ _ _ _ _ c.in-Err.ensures.same c.in-Err.ensures.cut
