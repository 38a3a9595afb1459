use Rattle.std.proofs.Common.{◌≡◌, w64, to_z, of_z, arith, ap, ◌∙◌, sym}
use Rattle.std.proofs.lemmas.Int.{to_z-of_z}
use Rattle.asset_records.specs.declared.records.Record.TheVariants.{Write, Add}
use Rattle.asset_records.specs.Listed.{record_of}
use Rattle.asset_records.proofs.records.record_of.Goals as goal

pub returns-in-Wrote : goal.returns-in-Wrote
unfolding record_of
returns-in-Wrote c =
    let fits : to_z w64 (of_z w64 c.in-Wrote.before) ≡ c.in-Wrote.before = grind (arith, to_z-of_z) in
    ap (λ v. Write c.args.owner v) fits ∙ sym (ap (record_of c.args.owner) c.in-Wrote.is)

pub returns-in-Added : goal.returns-in-Added
unfolding record_of
returns-in-Added c =
    let fits : to_z w64 (of_z w64 c.in-Added.amount) ≡ c.in-Added.amount = grind (arith, to_z-of_z) in
    ap (λ v. Add c.args.owner v) fits ∙ sym (ap (record_of c.args.owner) c.in-Added.is)
