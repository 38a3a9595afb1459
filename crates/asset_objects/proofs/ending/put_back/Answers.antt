use Rattle.std.proofs.Common.{◌≡◌, ◌∙◌, Bool, true, false, cond, eqb, refl, ap, sym, w64, to_z, of_z, arith}
use Rattle.std.specs.Prelude.{ℤ, Option, slice_set}
use Rattle.std.proofs.lemmas.Int.{to_z-of_z}
use Rattle.asset_records.specs.declared.mending.Mend.{Mend}
use Rattle.asset_records.specs.Mended.{mended}
use Rattle.asset_objects.specs.Placed.{value_at, restored_value}
use Rattle.asset_objects.proofs.PlacedLemmas.{value_set, read_value}
use Rattle.asset_objects.proofs.ending.put_back.Goals as goal

pub returns-in-Some-clause-values : goal.returns-in-Some-clause-values
unfolding restored_value
returns-in-Some-clause-values c = λ j.
    let values = c.args.values.now.items in
    let wraps : to_z w64 (of_z w64 c.mended.result) ≡ c.mended.result = grind (arith, to_z-of_z) in
    let small : to_z w64 (of_z w64 c.index.result.now) ≡ c.index.result.now = grind (arith, to_z-of_z) in
    let is : c.mended.result ≡ restored_value c.args.restored (value_at values c.args.i) =
    c.mended.ensures
    ∙ ap (mended c.in-Some.mend) (small ∙ read_value values c.args.i c.index.result.now c.requires c.index.ensures)
    ∙ sym (ap (λ (o : Option Mend). restored_value o (value_at values c.args.i)) c.in-Some.is) in
    ap (λ (v : ℤ). value_at (slice_set values c.args.i v) j) wraps ∙ value_set values c.args.i c.mended.result (restored_value c.args.restored) is c.requires j

pub returns-in_default-clause-values : goal.returns-in_default-clause-values
unfolding restored_value
returns-in_default-clause-values c = λ j.
    let value = value_at c.args.values.now.items j in
    same (eqb c.args.i j) value ∙ sym (ap (λ (o : Option Mend). cond (eqb c.args.i j) (restored_value o value) value) c.in_default.is) where
      same : (b : Bool) (v : ℤ) → v ≡ cond b v v
      same true v = refl
      same false v = refl
