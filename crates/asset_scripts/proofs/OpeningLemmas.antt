-- The objects of an opening, and whether one is among them.
use Rattle.std.proofs.Common.{◌≡◌, ℕ, Bool, true, false, cond, eqb, ◌||◌, List, [], ◌∷◌, ◌++◌, map, refl, sym, ◌∙◌, ap}
use Rattle.std.specs.Prelude.{ℤ, Some, is_some, option_map, find}
use Rattle.std.specs.List.{list_any}
use Rattle.std.proofs.lemmas.List.{map-append}
use Rattle.asset_names.specs.declared.names.Ob.{Ob}
use Rattle.asset_names.specs.Steps.{Opening, objects_of}
use Rattle.asset_names.specs.Arrows.{lists}
use Rattle.asset_names.specs.Sets.{HasNoDouble}
use Rattle.asset_names.specs.Operations.{exists, opening_at}
use Rattle.asset_names.proofs.DoubleLemmas.{no_double_push}
use Rattle.asset_names.proofs.Common.{eqb-flip}

-- an object exists if it comes first or later
listed_first : (pair : Ob × ℤ) (opening : Opening) (x : ℕ) (here : Bool) → is_some (option_map (λ (pair : Ob × ℤ). pair.1) (find (λ (pair : Ob × ℤ). eqb pair.0.0 x) opening)) ≡ list_any (λ (pair : Ob × ℤ). eqb pair.0.0 x) opening
    → is_some (option_map (λ (pair : Ob × ℤ). pair.1) (cond here (Some pair) (find (λ (pair : Ob × ℤ). eqb pair.0.0 x) opening))) ≡ (here || list_any (λ (pair : Ob × ℤ). eqb pair.0.0 x) opening)
listed_first pair opening x true later = refl
listed_first pair opening x false later = later

-- an object exists if the opening lists it
pub exists_listed : (opening : Opening) (x : ℕ) → exists opening x ≡ list_any (λ (pair : Ob × ℤ). eqb pair.0.0 x) opening
unfolding exists opening_at
exists_listed [] x = refl
exists_listed (pair ∷ opening) x = listed_first pair opening x (eqb pair.0.0 x) (exists_listed opening x)

-- objects that were listed are among the numbers of the opening
lists_objects : (opening : Opening) (x : ℕ) → lists (objects_of opening) x ≡ list_any (λ (pair : Ob × ℤ). eqb pair.0.0 x) opening
unfolding lists
lists_objects [] x = refl
lists_objects (pair ∷ opening) x = ap (λ b. eqb pair.0.0 x || b) (lists_objects opening x)

-- an object exists if a test that it alone passes finds it among the objects
pub found_exists : (test : Ob → Bool) (x : ℕ) → ((y : Ob) → test y ≡ eqb x y.0) → (objects : List Ob) (opening : Opening) → objects ≡ map (λ (pair : Ob × ℤ). pair.0) opening
    → list_any test objects ≡ exists opening x
found_exists test x finds objects opening kept = ap (list_any test) kept ∙ go opening ∙ sym (exists_listed opening x) where
  go : (opening : Opening) → list_any test (map (λ (pair : Ob × ℤ). pair.0) opening) ≡ list_any (λ (pair : Ob × ℤ). eqb pair.0.0 x) opening
  go [] = refl
  go (pair ∷ opening) = λ i. (finds pair.0 ∙ eqb-flip x pair.0.0) i || go opening i

-- one more object that did not exist makes no double
pub no_double_more : (opening : Opening) (object : Ob × ℤ) → exists opening object.0.0 ≡ false → HasNoDouble (objects_of opening) → HasNoDouble (objects_of (opening ++ object ∷ []))
no_double_more opening object new none = rw map-append (no_double_push (objects_of opening) object.0.0 (lists_objects opening object.0.0 ∙ sym (exists_listed opening object.0.0) ∙ new) none)
