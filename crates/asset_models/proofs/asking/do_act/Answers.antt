use Rattle.std.proofs.Common.{◌≡◌, ◌∙◌, ap, w64, to_z, of_z, arith}
use Rattle.std.proofs.lemmas.Int.{to_z-of_z}
use Rattle.asset_models.specs.Courses.{act_course, act_value}
use Rattle.asset_models.proofs.RunLemmas.{stays}
use Rattle.asset_models.proofs.asking.do_act.Goals as goal

pub returns-in-Read-clause-follows : goal.returns-in-Read-clause-follows
unfolding act_course
returns-in-Read-clause-follows g c = rw c.in-Read.is c.operate.ensures.follows

pub returns-in-Read-clause-cut : goal.returns-in-Read-clause-cut
unfolding act_course
returns-in-Read-clause-cut g c = rw c.in-Read.is c.operate.ensures.cut

pub returns-in-Write-clause-follows : goal.returns-in-Write-clause-follows
unfolding act_course act_value
returns-in-Write-clause-follows g c =
    let same : c.act_value-v.result ≡ c.in-Write.field-1 = c.act_value-v.ensures ∙ ap act_value c.in-Write.is in
    let back : to_z w64 (of_z w64 c.act_value-v.result) ≡ c.act_value-v.result = grind (arith, to_z-of_z) in
    rw (c.in-Write.is, ← same) (rw back at c.operate-in-Write.ensures.follows)

pub returns-in-Add-clause-follows : goal.returns-in-Add-clause-follows
unfolding act_course act_value
returns-in-Add-clause-follows g c =
    let same : c.act_value-d.result ≡ c.in-Add.field-1 = c.act_value-d.ensures ∙ ap act_value c.in-Add.is in
    let back : to_z w64 (of_z w64 c.act_value-d.result) ≡ c.act_value-d.result = grind (arith, to_z-of_z) in
    rw (c.in-Add.is, ← same) (rw back at c.operate-in-Add.ensures.follows)

pub returns-in-Write-clause-cut : goal.returns-in-Write-clause-cut
unfolding act_course act_value
returns-in-Write-clause-cut g c =
    let same : c.act_value-v.result ≡ c.in-Write.field-1 = c.act_value-v.ensures ∙ ap act_value c.in-Write.is in
    let back : to_z w64 (of_z w64 c.act_value-v.result) ≡ c.act_value-v.result = grind (arith, to_z-of_z) in
    rw (c.in-Write.is, ← same) (rw back at c.operate-in-Write.ensures.cut)

pub returns-in-Add-clause-cut : goal.returns-in-Add-clause-cut
unfolding act_course act_value
returns-in-Add-clause-cut g c =
    let same : c.act_value-d.result ≡ c.in-Add.field-1 = c.act_value-d.ensures ∙ ap act_value c.in-Add.is in
    let back : to_z w64 (of_z w64 c.act_value-d.result) ≡ c.act_value-d.result = grind (arith, to_z-of_z) in
    rw (c.in-Add.is, ← same) (rw back at c.operate-in-Add.ensures.cut)

pub returns-in-GiveUp-clause-follows : goal.returns-in-GiveUp-clause-follows
unfolding act_course
returns-in-GiveUp-clause-follows g c = λ next failed. rw c.in-GiveUp.is (stays failed _)
