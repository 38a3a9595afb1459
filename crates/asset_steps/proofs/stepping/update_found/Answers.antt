use Rattle.std.proofs.Common.{◌≡◌, refl, sym, ◌∙◌, w64, to_z, of_z, rules, arith}
use Rattle.std.proofs.lemmas.Int.{to_z-of_z}
use Rattle.asset_steps.proofs.OperationLemmas.{update_granted, update_waits, update_lacks}
use Rattle.asset_steps.proofs.stepping.update_found.Goals as goal

pub returns-in-Ok-true-clause-stepped : goal.returns-in-Ok-true-clause-stepped
returns-in-Ok-true-clause-stepped c =
    let fits : to_z w64 (of_z w64 c.args.v) ≡ c.args.v = grind (arith, to_z-of_z) in
    let granted = update_granted c.args.tables.now c.update_at.new.self c.args.one.t c.args.x c.args.update c.args.v c.requires.runs c.requires.exists (sym c.in-Ok-true.field-0-test ∙ c.in-Ok-true.ensures.answer) (rw fits at c.in-Ok-true.ensures.stand) c.in-Ok-true.ensures.locks in
    search rules

pub returns-in-Ok-false-clause-stepped : goal.returns-in-Ok-false-clause-stepped
returns-in-Ok-false-clause-stepped c =
    let fits : to_z w64 (of_z w64 c.args.v) ≡ c.args.v = grind (arith, to_z-of_z) in
    update_waits _ _ c.args.one.t c.args.x c.args.update c.args.v c.requires.runs c.requires.exists (sym c.in-Ok-false.field-0-test ∙ c.in-Ok-false.ensures.answer) (rw fits at c.in-Ok-false.ensures.stand) c.in-Ok-false.ensures.locks

pub returns-in-Err-clause-lacked : goal.returns-in-Err-clause-lacked
returns-in-Err-clause-lacked c =
    update_lacks _ _ c.args.one.t c.args.x c.args.update c.args.v c.requires.runs c.requires.exists (c.in-Err.ensures.memory refl) c.in-Err.ensures.unchanged
