use Rattle.std.proofs.Common.{◌≡◌, true, false}
use Rattle.asset_models.specs.Courses.{is_refusal, must_course}
use Rattle.asset_models.specs.Follows.{cut_end}
use Rattle.asset_models.proofs.RunLemmas.{must_follows, must_refused, cut_short}
use Rattle.asset_models.proofs.asking.must.Goals as goal

pub returns-then-is_refusal-clause-cut : goal.returns-then-is_refusal-clause-cut
unfolding cut_end
returns-then-is_refusal-clause-cut g c =
    let refused : is_refusal c.in-Ok.reply ≡ true = cc in
    must_refused _ _ _ _ c.in-Ok.ensures.answered refused

pub returns-else-is_refusal-clause-follows : goal.returns-else-is_refusal-clause-follows
returns-else-is_refusal-clause-follows g c =
    let accepted : is_refusal c.in-Ok.reply ≡ false = cc in
    must_follows _ _ _ _ c.in-Ok.ensures.answered accepted

pub returns-in-Err-clause-cut : goal.returns-in-Err-clause-cut
unfolding must_course
returns-in-Err-clause-cut g c = λ next. cut_short _ _ _ _ _ c.in-Err.ensures.same c.in-Err.ensures.cut
