use Rattle.std.proofs.Common.{◌≡◌, w64, to_z, of_z, arith, sym, ap, ◌∙◌}
use Rattle.std.proofs.lemmas.Int.{to_z-of_z}
use Rattle.asset_records.specs.declared.records.Record.TheVariants.{Write, Add, Lasting}
use Rattle.asset_records.specs.Mended.{mended, mended_record}
use Rattle.asset_records.proofs.records.Record.mended.Goals as goal

pub returns-in-Write : goal.returns-in-Write
unfolding mended_record
returns-in-Write c =
    let fits : to_z w64 (of_z w64 c.in-Write.before) ≡ c.in-Write.before = grind (arith, to_z-of_z) in
    let wraps : to_z w64 (of_z w64 c.mended.result) ≡ c.mended.result = grind (arith, to_z-of_z) in
    ap (Write c.in-Write.owner) (wraps ∙ c.mended.ensures ∙ ap (mended c.args.mend) fits) ∙ sym (ap (mended_record c.args.mend) c.in-Write.is)

pub returns-in-Add : goal.returns-in-Add
unfolding mended_record
returns-in-Add c =
    let fits : to_z w64 (of_z w64 c.in-Add.amount) ≡ c.in-Add.amount = grind (arith, to_z-of_z) in
    ap (Add c.in-Add.owner) fits ∙ sym (ap (mended_record c.args.mend) c.in-Add.is)

pub returns-in-Lasting : goal.returns-in-Lasting
unfolding mended_record
returns-in-Lasting c =
    let fits : to_z w64 (of_z w64 c.in-Lasting.amount) ≡ c.in-Lasting.amount = grind (arith, to_z-of_z) in
    ap Lasting fits ∙ sym (ap (mended_record c.args.mend) c.in-Lasting.is)
