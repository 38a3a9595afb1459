use Rattle.std.proofs.Common.{◌≡◌, Some, w64, to_z, of_z, arith, sym, ap, ◌∙◌}
use Rattle.std.proofs.lemmas.Int.{to_z-of_z}
use Rattle.asset_records.specs.declared.records.Record.{Record}
use Rattle.asset_records.specs.Dropped.{added_by}
use Rattle.asset_records.proofs.records.Record.added.Goals as goal

pub returns-in-Write : goal.returns-in-Write
unfolding added_by
returns-in-Write c = sym (ap (λ (one : Record). added_by (Some one)) c.in-Write.is)

pub returns-in-Add : goal.returns-in-Add
unfolding added_by
returns-in-Add c =
    let fits : to_z w64 (of_z w64 c.in-Add.amount) ≡ c.in-Add.amount = grind (arith, to_z-of_z) in
    ap Some fits ∙ sym (ap (λ (one : Record). added_by (Some one)) c.in-Add.is)

pub returns-in-Lasting : goal.returns-in-Lasting
unfolding added_by
returns-in-Lasting c =
    let fits : to_z w64 (of_z w64 c.in-Lasting.amount) ≡ c.in-Lasting.amount = grind (arith, to_z-of_z) in
    ap Some fits ∙ sym (ap (λ (one : Record). added_by (Some one)) c.in-Lasting.is)
