-- The objects of an opening, one after another.
use Rattle.std.proofs.Common.{◌≡◌, ℕ, ◌+◌, ◌<◌, ℤ, Bool, true, false, cond, eqb, ◌||◌, [], ◌∷◌, length, get_or, take, refl, sym, ap, ◌∙◌, Some}
use Rattle.std.specs.Prelude.{find, is_some}
use Rattle.std.specs.List.{list_any}
use Rattle.std.specs.Option.{option_map}
use Rattle.std.proofs.lemmas.List.{take_more}
use Rattle.std.proofs.lemmas.List.Folds.{list_any-append}
use Rattle.asset_names.specs.declared.names.Ob.{Ob}
use Rattle.asset_names.specs.Steps.{Opening}
use Rattle.asset_names.specs.Operations.{opening_at, exists}
use Rattle.asset_names.proofs.Common.{or_false}

exists_is : (opening : Opening) (x : ℕ) → exists opening x ≡ list_any (λ (pair : Ob × ℤ). eqb pair.0.0 x) opening
unfolding exists opening_at
exists_is [] x = refl
exists_is (pair ∷ opening) x = go (eqb pair.0.0 x) (exists_is opening x) where
  go : (b : Bool) → is_some (option_map (λ (p : Ob × ℤ). p.1) (find (λ (p : Ob × ℤ). eqb p.0.0 x) opening)) ≡ list_any (λ (p : Ob × ℤ). eqb p.0.0 x) opening
      → is_some (option_map (λ (p : Ob × ℤ). p.1) (cond b (Some pair) (find (λ (p : Ob × ℤ). eqb p.0.0 x) opening))) ≡ (b || list_any (λ (p : Ob × ℤ). eqb p.0.0 x) opening)
  go true rest = refl
  go false rest = rest

-- the objects of one pair more
pub exists_more : (opening : Opening) (k x : ℕ) (d : Ob × ℤ) → k < length opening → exists (take (k + 1) opening) x ≡ (exists (take k opening) x || eqb (get_or opening k d).0.0 x)
exists_more opening k x d below =
    exists_is (take (k + 1) opening) x ∙ ap (λ l. list_any (λ (p : Ob × ℤ). eqb p.0.0 x) l) (take_more opening k d below)
    ∙ list_any-append (λ (p : Ob × ℤ). eqb p.0.0 x) (take k opening) (get_or opening k d ∷ [])
    ∙ (λ i. sym (exists_is (take k opening) x) i || or_false (eqb (get_or opening k d).0.0 x) i)
