use Rattle.std.proofs.Common.{◌≡◌, w64, to_z, of_z, arith}
use Rattle.std.proofs.lemmas.Int.{to_z-of_z}
use Rattle.asset_names.specs.Steps.{value_asked}
use Rattle.asset_ends.specs.Updates.{step_of}
use Rattle.asset_steps.proofs.stepping.step_at_once.Goals as goal

pub returns-in-Write-clause-stepped : goal.returns-in-Write-clause-stepped
unfolding value_asked step_of
returns-in-Write-clause-stepped c =
    let fits : to_z w64 (of_z w64 c.value_asked.result) ≡ c.value_asked.result = grind (arith, to_z-of_z) in
    let asked : c.value_asked.result ≡ c.in-Write.v = rw c.in-Write.is at c.value_asked.ensures in
    rw c.in-Write.is (rw (fits, asked) at c.update_if_any.ensures.stepped)

pub returns-in-Add-clause-stepped : goal.returns-in-Add-clause-stepped
unfolding value_asked step_of
returns-in-Add-clause-stepped c =
    let fits : to_z w64 (of_z w64 c.value_asked-in-Add.result) ≡ c.value_asked-in-Add.result = grind (arith, to_z-of_z) in
    let asked : c.value_asked-in-Add.result ≡ c.in-Add.d = rw c.in-Add.is at c.value_asked-in-Add.ensures in
    rw c.in-Add.is (rw (fits, asked) at c.update_if_any-in-Add.ensures.stepped)

pub returns-in-Write-clause-lacked : goal.returns-in-Write-clause-lacked
unfolding value_asked step_of
returns-in-Write-clause-lacked c =
    let fits : to_z w64 (of_z w64 c.value_asked.result) ≡ c.value_asked.result = grind (arith, to_z-of_z) in
    let asked : c.value_asked.result ≡ c.in-Write.v = rw c.in-Write.is at c.value_asked.ensures in
    rw c.in-Write.is (rw (fits, asked) at c.update_if_any.ensures.lacked)

pub returns-in-Add-clause-lacked : goal.returns-in-Add-clause-lacked
unfolding value_asked step_of
returns-in-Add-clause-lacked c =
    let fits : to_z w64 (of_z w64 c.value_asked-in-Add.result) ≡ c.value_asked-in-Add.result = grind (arith, to_z-of_z) in
    let asked : c.value_asked-in-Add.result ≡ c.in-Add.d = rw c.in-Add.is at c.value_asked-in-Add.ensures in
    rw c.in-Add.is (rw (fits, asked) at c.update_if_any-in-Add.ensures.lacked)
