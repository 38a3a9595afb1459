-- Reads of lists by place.
use Rattle.std.proofs.Common.{◌≡◌, ℕ, zero, suc, ◌+◌, ◌-◌, ◌<◌, ◌≤◌, List, [], ◌∷◌, length, map, take, slice_get, get_or, Some, sym, ap, ◌∙◌, subst, refl, arith}
use native.Mathlib.Decide.{ℕ_discrete}
use Rattle.std.proofs.lemmas.Option.{slice_get-get_or, slice_get_within, slice_get_read, slice_get-map}
use Rattle.std.specs.Option.{option_map}
use Rattle.asset_names.specs.Steps.{Entry}
use Rattle.asset_audit.specs.Audited.{Call, Rises, IsAbove, AreGoodBelow}

module _ {X : Type 0} where
  some_inj : (a b : X) → Some a ≡ Some b → a ≡ b
  some_inj a b e = cc

  pub item_there : {Y : Type 0} (f : X → Y) (xs : List X) (i : ℕ) (x : X) → i < length xs → x ≡ get_or xs i x → slice_get (map f xs) i ≡ Some (f x)
  item_there f xs i x lt e = slice_get-map f xs i ∙ ap (option_map f) (slice_get_read xs (length xs) i x refl lt e)

  pub item_at : (xs : List X) (i : ℕ) (x : X) → i < length xs → x ≡ get_or xs i x → slice_get xs i ≡ Some x
  item_at xs i x lt e = slice_get_read xs (length xs) i x refl lt e

  pub length_of-map : {Y : Type 0} (f : X → Y) (xs : List X) → length (map f xs) ≡ length xs
  length_of-map f [] = refl
  length_of-map f (x ∷ xs) = ap suc (length_of-map f xs)

  -- what is at a place of a beginning is there in the whole
  pub take_there : (n : ℕ) (xs : List X) (i : ℕ) (x : X) → slice_get (take n xs) i ≡ Some x → slice_get xs i ≡ Some x
  take_there zero xs i x e = absurd (none e)
    where
      none : slice_get (take zero xs) i ≡ Some x → ⊥
      none e = cc
  take_there (suc n) [] i x e = absurd (none e)
    where
      none : slice_get [] i ≡ Some x → ⊥
      none e = cc
  take_there (suc n) (y ∷ ys) zero x e = e
  take_there (suc n) (y ∷ ys) (suc i) x e = take_there n ys i x e

  pub take_within : (n : ℕ) (xs : List X) (i : ℕ) (x : X) → slice_get (take n xs) i ≡ Some x → i < n
  take_within zero xs i x e = absurd (none e)
    where
      none : slice_get (take zero xs) i ≡ Some x → ⊥
      none e = cc
  take_within (suc n) [] i x e = absurd (none e)
    where
      none : slice_get [] i ≡ Some x → ⊥
      none e = cc
  take_within (suc n) (y ∷ ys) zero x e = omega arith
  take_within (suc n) (y ∷ ys) (suc i) x e = let h = take_within n ys i x e in omega arith

  pub there_take : (n : ℕ) (xs : List X) (i : ℕ) (x : X) → i < n → slice_get xs i ≡ Some x → slice_get (take n xs) i ≡ Some x
  there_take zero xs i x lt e = absurd (omega arith)
  there_take (suc n) [] i x lt e = e
  there_take (suc n) (y ∷ ys) zero x lt e = e
  there_take (suc n) (y ∷ ys) (suc i) x lt e = there_take n ys i x (omega arith) e

  -- what holds at each place below n, and at n, holds below n + 1
  pub one_more : (P : ℕ → X → Type 0) (xs : List X) (n : ℕ) (x : X) → slice_get xs n ≡ Some x → ((k : ℕ) (y : X) → k < n → slice_get xs k ≡ Some y → P k y) → P n x → (k : ℕ) (y : X) → k < n + 1 → slice_get xs k ≡ Some y → P k y
  one_more P xs n x at below here k y lt e = go (ℕ_discrete k n)
    where
      go : Dec (k ≡ n) → P k y
      go (yes same) = subst (λ (p : ℕ × X). P p.0 p.1) (λ i. (sym same i, some_inj x y (sym at ∙ (ap (slice_get xs) (sym same) ∙ e)) i)) here
      go (no other) = below k y (omega arith) e

-- good calls rise
pub good_rises : (log : List Entry) (earlier : List (List Call)) (l : List Call) (n : ℕ) → AreGoodBelow log earlier l n → Rises (take n l)
good_rises log earlier l n good i j a b lt ea eb =
    (good j b (take_within n l j b eb) (take_there n l j b eb)).rises i a (there_take j l i a lt (take_there n l i a ea))

-- a number is above a list that rises exactly if it is above the last one
pub above_last : (l : List Call) (d : Call) (n : ℕ) → Rises l → 0 < length l → (get_or l (length l - 1) d).0 < n → IsAbove l n
above_last l d n rises some lt k b e = go (ℕ_discrete k (length l - 1)) where
  last : slice_get l (length l - 1) ≡ Some (get_or l (length l - 1) d)
  last = slice_get-get_or l (length l - 1) d (omega (arith, some))

  go : Dec (k ≡ length l - 1) → b.0 < n
  go (yes same) = subst (λ (x : Call). x.0 < n) (some_inj _ _ (sym last ∙ (ap (slice_get l) (sym same) ∙ e))) lt
  go (no other) = let w = slice_get_within l k b e in let h : b.0 < (get_or l (length l - 1) d).0 = rises k (length l - 1) b (get_or l (length l - 1) d) (omega (arith, w, other)) e last in omega (arith, h, lt)

pub last_above : (l : List Call) (d : Call) (n : ℕ) → 0 < length l → IsAbove l n → (get_or l (length l - 1) d).0 < n
last_above l d n some above = above (length l - 1) (get_or l (length l - 1) d) (slice_get-get_or l (length l - 1) d (omega (arith, some)))

-- what stands at a place or after it has no lower number
pub later_above : (l : List Call) (n : ℕ) (c : Call) → Rises l → slice_get l n ≡ Some c → (k : ℕ) (d : Call) → n ≤ k → slice_get l k ≡ Some d → c.0 ≤ d.0
later_above l n c rises at k d most e = go (ℕ_discrete k n) where
  go : Dec (k ≡ n) → c.0 ≤ d.0
  go (yes same) = let one : d ≡ c = some_inj d c (sym e ∙ (ap (slice_get l) same ∙ at)) in let numbers : d.0 ≡ c.0 = ap (λ (x : Call). x.0) one in omega arith
  go (no other) = let lower : c.0 < d.0 = rises n k c d (omega arith) at e in omega arith
