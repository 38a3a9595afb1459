use Rattle.std.proofs.Common.{ap}
use Rattle.std.proofs.lemmas.Int.{to_z-of_z}
use Rattle.std.proofs.Common.{◌≡◌, w64, to_z, of_z, arith, ◌∙◌, sym}
use Rattle.asset_records.specs.declared.records.Record.TheVariants.{Write, Add, Lasting}
use Rattle.asset_records.specs.Handed.{given}
use Rattle.asset_records.proofs.handing.given.Goals as goal

pub returns-in-Write : goal.returns-in-Write
unfolding given
returns-in-Write c =
    let fits : to_z w64 (of_z w64 c.in-Write.before) ≡ c.in-Write.before = grind (arith, to_z-of_z) in
    ap (λ v. Write c.args.taker v) fits ∙ sym (ap (given c.args.taker) c.in-Write.is)

pub returns-in-Add : goal.returns-in-Add
unfolding given
returns-in-Add c =
    let fits : to_z w64 (of_z w64 c.in-Add.amount) ≡ c.in-Add.amount = grind (arith, to_z-of_z) in
    ap (λ v. Add c.args.taker v) fits ∙ sym (ap (given c.args.taker) c.in-Add.is)

pub returns-in-Lasting : goal.returns-in-Lasting
unfolding given
returns-in-Lasting c =
    let fits : to_z w64 (of_z w64 c.in-Lasting.amount) ≡ c.in-Lasting.amount = grind (arith, to_z-of_z) in
    ap (λ v. Lasting v) fits ∙ sym (ap (given c.args.taker) c.in-Lasting.is)
