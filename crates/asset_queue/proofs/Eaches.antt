-- What is so of each of a list.
use Rattle.std.proofs.Common.{◌≡◌, ℕ, zero, suc, List, [], ◌∷◌, ◌++◌, length, map, Some, sym, refl, ap, ◌∙◌, subst}
use Rattle.std.specs.Prelude.{slice_get}
use Rattle.std.proofs.lemmas.List.{map-append}
use Rattle.asset_queue.specs.Each.{Each, IsAmong}

module _ {A : Type 0} where
  pub each_more : (P : A → Type 0) (xs : List A) (x : A) → Each P xs → P x → Each P (xs ++ x ∷ [])
  each_more P [] x all one = (one, tt)
  each_more P (y ∷ ys) x all one = (all.0, each_more P ys x all.1 one)

  pub each_pushed : (P : A → Type 0) (old new : List A) (x : A) → new ≡ old ++ x ∷ [] → Each P old → P x → Each P new
  each_pushed P old new x e all one = subst (Each P) (sym e) (each_more P old x all one)

  pub each_append : (P : A → Type 0) (xs ys : List A) → Each P xs → Each P ys → Each P (xs ++ ys)
  each_append P [] ys all more = more
  each_append P (x ∷ xs) ys all more = (all.0, each_append P xs ys all.1 more)

  each_by : (P : A → Type 0) (xs : List A) → ((i : ℕ) (x : A) → slice_get xs i ≡ Some x → P x) → Each P xs
  each_by P [] by = tt
  each_by P (x ∷ xs) by = (by 0 x refl, each_by P xs (λ i. by (suc i)))

  -- each of a list is among it
  pub each_there : (xs : List A) → Each (IsAmong xs) xs
  each_there xs = each_by (IsAmong xs) xs (λ i x e. (i, e))

  pub each_among : (P : A → Type 0) (xs : List A) (x : A) → Each P xs → IsAmong xs x → P x
  each_among P [] x all at = absurd (cc at.1)
  each_among P (y ∷ ys) x all (zero, e) = let same : y ≡ x = cc e in subst P same all.0
  each_among P (y ∷ ys) x all (suc i, e) = each_among P ys x all.1 (i, e)

  after : (ys rest : List A) (x : A) → slice_get (ys ++ x ∷ rest) (length ys) ≡ Some x
  after [] rest x = refl
  after (y ∷ ys) rest x = after ys rest x

  -- the next of a list is among it
  pub next_among : (all ys rest rest' : List A) (x : A) → ys ++ rest ≡ all → rest ≡ x ∷ rest' → IsAmong all x
  next_among all ys rest rest' x whole next =
      (length ys, subst (λ (l : List A). slice_get l (length ys) ≡ Some x) (sym (ap (λ l. ys ++ l) next) ∙ whole) (after ys rest' x))

-- one more on each side
pub maps_pushed : {A B C : Type 0} (f : A → C) (g : B → C) (old new : List A) (x : A) (ys : List B) (y : B) → new ≡ old ++ x ∷ [] → map f old ≡ map g ys → f x ≡ g y → map f new ≡ map g (ys ++ y ∷ [])
maps_pushed f g old new x ys y e o h = ap (map f) e ∙ (map-append f old (x ∷ []) ∙ ((λ i. o i ++ h i ∷ []) ∙ sym (map-append g ys (y ∷ []))))
