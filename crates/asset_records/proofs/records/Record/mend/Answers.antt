use Rattle.std.proofs.Common.{◌≡◌, w64, to_z, of_z, arith, sym, ap, ◌∙◌}
use Rattle.std.proofs.lemmas.Int.{to_z-of_z}
use Rattle.asset_records.specs.declared.records.Record.{Record}
use Rattle.asset_records.specs.declared.mending.Mend.TheVariants.{Set, Less}
use Rattle.asset_records.specs.Mended.{mend_by}
use Rattle.asset_records.proofs.records.Record.mend.Goals as goal

pub returns-in-Write : goal.returns-in-Write
unfolding mend_by
returns-in-Write c = ap Set (to_z-of_z w64 c.args.value c.ranges.value) ∙ sym (ap (λ (one : Record). mend_by one c.args.value) c.in-Write.is)

pub returns-in-Add : goal.returns-in-Add
unfolding mend_by
returns-in-Add c =
    let fits : to_z w64 (of_z w64 c.in-Add.amount) ≡ c.in-Add.amount = grind (arith, to_z-of_z) in
    ap Less fits ∙ sym (ap (λ (one : Record). mend_by one c.args.value) c.in-Add.is)

pub returns-in-Lasting : goal.returns-in-Lasting
unfolding mend_by
returns-in-Lasting c =
    let fits : to_z w64 (of_z w64 c.in-Lasting.amount) ≡ c.in-Lasting.amount = grind (arith, to_z-of_z) in
    ap Less fits ∙ sym (ap (λ (one : Record). mend_by one c.args.value) c.in-Lasting.is)
