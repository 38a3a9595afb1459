use Rattle.std.proofs.Common.{◌≡◌, ◌∙◌, refl, w64, to_z, of_z, arith}
use Rattle.std.proofs.lemmas.Int.{to_z-of_z}
use Rattle.asset_jobs.specs.Acts.{DoesActs, act_value}
use Rattle.asset_jobs.proofs.ActLemmas.{reads_alone, writes_alone, adds_alone}
use Rattle.asset_jobs.proofs.acting.act.Goals as goal

pub returns-in-Read-clause-did : goal.returns-in-Read-clause-did
returns-in-Read-clause-did g c = rw c.in-Read.is (reads_alone _ _ _ _ _ _ c.read.ensures.asked c.goes_on.ensures)

pub returns-in-Write-clause-did : goal.returns-in-Write-clause-did
unfolding act_value
returns-in-Write-clause-did g c =
    let fits : to_z w64 (of_z w64 c.act_value.result) ≡ c.act_value.result = grind (arith, to_z-of_z) in
    rw c.in-Write.is (writes_alone _ _ _ _ _ _ _ _ (fits ∙ c.act_value.ensures) c.write.ensures.asked c.goes_on-in-Write.ensures)

pub returns-in-Add-clause-did : goal.returns-in-Add-clause-did
unfolding act_value
returns-in-Add-clause-did g c =
    let fits : to_z w64 (of_z w64 c.act_value-in-Add.result) ≡ c.act_value-in-Add.result = grind (arith, to_z-of_z) in
    rw c.in-Add.is (adds_alone _ _ _ _ _ _ _ _ (fits ∙ c.act_value-in-Add.ensures) c.add.ensures.asked c.goes_on-in-Add.ensures)

pub returns-in-GiveUp-clause-did : goal.returns-in-GiveUp-clause-did
unfolding DoesActs
returns-in-GiveUp-clause-did g c = rw c.in-GiveUp.is (refl, refl)
