use Rattle.std.proofs.Common.{◌≡◌, refl, w64, to_z, of_z, arith}
use Rattle.std.proofs.lemmas.Int.{to_z-of_z}
use Rattle.asset_steps.proofs.OperationLemmas.{read_granted, read_waits, read_lacks}
use Rattle.asset_steps.proofs.stepping.read_found.Goals as goal

pub returns-in-Ok-Some-clause-stepped : goal.returns-in-Ok-Some-clause-stepped
returns-in-Ok-Some-clause-stepped c =
    let fits : to_z w64 (of_z w64 c.in-Ok-Some.v) ≡ c.in-Ok-Some.v = grind (arith, to_z-of_z) in
    rw fits (read_granted _ _ c.args.one.t c.args.x c.in-Ok-Some.v c.requires.runs c.requires.exists (rw c.in-Ok-Some.field-0-is at c.in-Ok-Some.ensures.answer) c.in-Ok-Some.ensures.stand c.in-Ok-Some.ensures.locks)

pub returns-in-Ok-None-clause-stepped : goal.returns-in-Ok-None-clause-stepped
returns-in-Ok-None-clause-stepped c =
    read_waits _ _ c.args.one.t c.args.x c.requires.runs c.requires.exists (rw c.in-Ok-None.field-0-is at c.in-Ok-None.ensures.answer) c.in-Ok-None.ensures.stand c.in-Ok-None.ensures.locks

pub returns-in-Err-clause-lacked : goal.returns-in-Err-clause-lacked
returns-in-Err-clause-lacked c =
    read_lacks _ _ c.args.one.t c.args.x c.requires.runs c.requires.exists (c.in-Err.ensures.memory refl) c.in-Err.ensures.unchanged
