use Rattle.std.proofs.Common.{◌≡◌, w64, to_z, of_z, FitsSigned, arith, ap, ◌∙◌, sym}
use Rattle.std.proofs.lemmas.Int.{to_z-of_z, wrapping_sub_is}
use Rattle.asset_records.specs.declared.mending.Mend.{Mend}
use Rattle.asset_records.specs.Mended.{mended}
use Rattle.asset_records.proofs.mending.Mend.mended.Goals as goal

pub returns-in-Set : goal.returns-in-Set
unfolding mended
returns-in-Set c =
    let fits : to_z w64 (of_z w64 c.in-Set.set) ≡ c.in-Set.set = grind (arith, to_z-of_z) in
    fits ∙ sym (ap (λ (m : Mend). mended m c.args.value) c.in-Set.is)

pub returns-in-Less : goal.returns-in-Less
unfolding mended
returns-in-Less c =
    let fits : FitsSigned w64 c.in-Less.amount = grind arith in
    wrapping_sub_is w64 c.args.value c.in-Less.amount c.ranges.value fits ∙ sym (ap (λ (m : Mend). mended m c.args.value) c.in-Less.is)
