use Rattle.std.proofs.Common.{◌≡◌, w64, to_z, of_z, arith, sym, ap, ◌∙◌}
use Rattle.std.proofs.lemmas.Int.{to_z-of_z}
use Rattle.asset_records.specs.Mended.{content_of}
use Rattle.asset_records.proofs.records.Record.content.Goals as goal

pub returns-in-Write : goal.returns-in-Write
unfolding content_of
returns-in-Write c =
    let fits : to_z w64 (of_z w64 c.in-Write.before) ≡ c.in-Write.before = grind (arith, to_z-of_z) in
    fits ∙ sym (ap content_of c.in-Write.is)

pub returns-in-Add : goal.returns-in-Add
unfolding content_of
returns-in-Add c =
    let fits : to_z w64 (of_z w64 c.in-Add.amount) ≡ c.in-Add.amount = grind (arith, to_z-of_z) in
    fits ∙ sym (ap content_of c.in-Add.is)

pub returns-in-Lasting : goal.returns-in-Lasting
unfolding content_of
returns-in-Lasting c =
    let fits : to_z w64 (of_z w64 c.in-Lasting.amount) ≡ c.in-Lasting.amount = grind (arith, to_z-of_z) in
    fits ∙ sym (ap content_of c.in-Lasting.is)
