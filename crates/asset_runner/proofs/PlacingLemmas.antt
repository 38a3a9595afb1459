-- What was shared out comes back in order.
use Rattle.std.proofs.Common.{◌≡◌, ◌≢◌, ℕ, zero, suc, ◌+◌, ◌<◌, ◌≤◌, true, cond, eqb, List, [], ◌∷◌, ◌++◌, length, map, set, Option, Some, None, sym, refl, ap, ◌∙◌, subst, ⊎_elim, append_assoc, arith}
use Rattle.std.specs.Prelude.{slice_get}
use Rattle.std.specs.Bool.{◌==◌}
use Rattle.std.proofs.lemmas.List.{length-append, nil_from_length}
use Rattle.std.proofs.lemmas.Bool.{cases_eq}
use Rattle.std.proofs.lemmas.Bool.Decides.{nat_tests}
use Rattle.asset_queue.specs.Each.{IsAmong}
use Rattle.asset_queue.specs.Once.{weigh}
use Rattle.asset_runner.specs.Placing.{numbered, placed, somes, nones}

module _ {X : Type 0} where
  pub get_set_same : (xs : List X) (i : ℕ) (x : X) → i < length xs → slice_get (set xs i x) i ≡ Some x
  get_set_same [] i x h = absurd (omega arith)
  get_set_same (y ∷ ys) zero x h = refl
  get_set_same (y ∷ ys) (suc i) x h = get_set_same ys i x (omega arith)

  pub get_set_other : (xs : List X) (i j : ℕ) (x : X) → j ≢ i → slice_get (set xs i x) j ≡ slice_get xs j
  get_set_other [] i j x h = refl
  get_set_other (y ∷ ys) zero zero x h = absurd (h refl)
  get_set_other (y ∷ ys) zero (suc j) x h = refl
  get_set_other (y ∷ ys) (suc i) zero x h = refl
  get_set_other (y ∷ ys) (suc i) (suc j) x h = get_set_other ys i j x (λ e. h (ap suc e))

  pub length_set : (xs : List X) (i : ℕ) (x : X) → length (set xs i x) ≡ length xs
  length_set [] i x = refl
  length_set (y ∷ ys) zero x = refl
  length_set (y ∷ ys) (suc i) x = ap suc (length_set ys i x)

-- whether a ticket has the place i, and whether it is x
abbrev pub at : ℕ → ℕ × ℕ → ℕ
at i y = cond (eqb y.0 i) 1 0

abbrev pub is : ℕ × ℕ → ℕ × ℕ → ℕ
is x y = cond (eqb y.0 x.0) (cond (eqb y.1 x.1) 1 0) 0

is_self : (x : ℕ × ℕ) → is x x ≡ 1
is_self x = grind (arith, nat_tests)

at_not : (i : ℕ) (x : ℕ × ℕ) → x.0 ≢ i → at i x ≡ 0
at_not i x h = grind (arith, nat_tests)

is_some : (x y : ℕ × ℕ) → 0 < is x y → (y.0 ≡ x.0) × (y.1 ≡ x.1)
is_some x y h = grind (arith, nat_tests)

module _ {A : Type 0} (place name : A → ℕ) where
  abbrev ticket : A → ℕ × ℕ
  ticket a = (place a, name a)

  pub placed-append : (slots : List (Option A)) (xs ys : List A) → placed place slots (xs ++ ys) ≡ placed place (placed place slots ys) xs
  placed-append slots [] ys = refl
  placed-append slots (x ∷ xs) ys = ap (λ l. set l (place x) (Some x)) (placed-append slots xs ys)

  pub length_placed : (slots : List (Option A)) (xs : List A) → length (placed place slots xs) ≡ length slots
  length_placed slots [] = refl
  length_placed slots (x ∷ xs) = length_set (placed place slots xs) (place x) (Some x) ∙ length_placed slots xs

  -- a place for which a ticket arrival is taken by one that arrival
  pub stands : (slots : List (Option A)) (all : List A) (i : ℕ) → i < length slots → 0 < weigh (at i) (map ticket all)
      → (a : A) × (slice_get (placed place slots all) i ≡ Some (Some a)) × (0 < weigh (is (ticket a)) (map ticket all)) × (place a ≡ i) × IsAmong all a
  stands slots [] i len some = absurd (omega arith)
  stands slots (a ∷ rest) i len some = ⊎_elim
      (λ (e : place a ≡ i).
      let w : 0 < weigh (is (ticket a)) (map ticket (a ∷ rest)) = omega (arith, is_self (ticket a)) in
      (a, subst (λ (j : ℕ). slice_get (set (placed place slots rest) (place a) (Some a)) j ≡ Some (Some a)) e (get_set_same (placed place slots rest) (place a) (Some a) (omega (arith, length_placed slots rest, e, len))), w, e, (0, refl)))
      (λ (n : place a ≢ i).
      let s = stands slots rest i len (omega (arith, some, at_not i (ticket a) n)) in
      (s.0, get_set_other (placed place slots rest) (place a) i (Some a) (λ e. n (sym e)) ∙ s.1, omega (arith, s.2), s.3, (suc s.4.0, s.4.1)))
      (cases_eq (place a) i)

-- a ticket that was given has the name of its place
pub numbered_has : (k : ℕ) (ts : List ℕ) (x : ℕ × ℕ) → 0 < weigh (is x) (numbered k ts) → (i : ℕ) × (x.0 ≡ k + i) × (slice_get ts i ≡ Some x.1)
numbered_has k [] x h = absurd (omega arith)
numbered_has k (t ∷ ts) x h = ⊎_elim
    (λ (none : is x (k, t) ≡ 0). let r = numbered_has (k + 1) ts x (omega (arith, none, h)) in (suc r.0, omega (arith, r.1), r.2))
    (λ (some : is x (k, t) ≢ 0). let e = is_some x (k, t) (omega (arith, some)) in (0, omega (arith, e.0), ap Some e.1))
    (cases_eq (is x (k, t)) 0)

pub at_place : (i j : ℕ) (t : ℕ) → j ≡ i → at i (j, t) ≡ 1
at_place i j t h = grind (arith, nat_tests)

none_before : (k : ℕ) (ts : List ℕ) (i : ℕ) → i < k → weigh (at i) (numbered k ts) ≡ 0
none_before k [] i h = refl
none_before k (t ∷ ts) i h = omega (arith, at_not i (k, t) (λ e. omega (arith, e, h)), none_before (k + 1) ts i (omega (arith, h)))

-- each place is given once
pub numbered_once : (k : ℕ) (ts : List ℕ) (i : ℕ) → weigh (at i) (numbered k ts) ≤ 1
numbered_once k [] i = omega arith
numbered_once k (t ∷ ts) i = ⊎_elim
    (λ (e : k ≡ i). omega (arith, at_place i k t e, none_before (k + 1) ts i (omega (arith, e))))
    (λ (n : k ≢ i). omega (arith, at_not i (k, t) n, numbered_once (k + 1) ts i))
    (cases_eq k i)

-- a place that was given is one of so many
pub numbered_in : (k : ℕ) (ts : List ℕ) (i : ℕ) → 0 < weigh (at i) (numbered k ts) → i < k + length ts
numbered_in k [] i h = absurd (omega (arith, h))
numbered_in k (t ∷ ts) i h = ⊎_elim
    (λ (e : k ≡ i). omega (arith, e))
    (λ (n : k ≢ i). let r = numbered_in (k + 1) ts i (omega (arith, at_not i (k, t) n, h)) in omega (arith, r))
    (cases_eq k i)

-- the place of one of a list is given there
pub weighs_among : {A : Type 0} (ticket : A → ℕ × ℕ) (xs : List A) (x : A) (i : ℕ) → IsAmong xs x → (ticket x).0 ≡ i → 0 < weigh (at i) (map ticket xs)
weighs_among ticket [] x i among e = absurd (cc among.1)
weighs_among ticket (y ∷ ys) x i (zero, here) e =
    let same : y ≡ x = cc here in
    let place : (ticket y).0 ≡ i = ap (λ z. (ticket z).0) same ∙ e in
    omega (arith, at_place i (ticket y).0 (ticket y).1 place)
weighs_among ticket (y ∷ ys) x i (suc n, here) e = omega (arith, weighs_among ticket ys x i (n, here) e)

pub numbered_at : (k : ℕ) (ts : List ℕ) (i : ℕ) → i < length ts → 0 < weigh (at (k + i)) (numbered k ts)
numbered_at k [] i h = absurd (omega arith)
numbered_at k (t ∷ ts) zero h = omega (arith, at_place (k + 0) k t (omega arith))
numbered_at k (t ∷ ts) (suc i) h =
    let r : 0 < weigh (at (k + 1 + i)) (numbered (k + 1) ts) = numbered_at (k + 1) ts i (omega arith) in
    let q : k + 1 + i ≡ k + suc i = omega arith in
    let s : 0 < weigh (at (k + suc i)) (numbered (k + 1) ts) = subst (λ (j : ℕ). 0 < weigh (at j) (numbered (k + 1) ts)) q r in
    omega (arith, s)

pub length_nones : (A : Type 0) (n : ℕ) → length (nones {A = A} n) ≡ n
length_nones A zero = refl
length_nones A (suc n) = ap suc (length_nones A n)

module _ {A : Type 0} where
  pub somes-append : (xs ys : List (Option A)) → somes (xs ++ ys) ≡ somes xs ++ somes ys
  somes-append [] ys = refl
  somes-append (None ∷ xs) ys = somes-append xs ys
  somes-append (Some x ∷ xs) ys = ap (λ l. x ∷ l) (somes-append xs ys)

  -- what stands at each place, in order
  pub somes_names : (name : A → ℕ) (xs : List (Option A)) (ts : List ℕ) → length xs ≡ length ts
      → ((i : ℕ) → i < length ts → (a : A) × (slice_get xs i ≡ Some (Some a)) × (slice_get ts i ≡ Some (name a))) → map name (somes xs) ≡ ts
  somes_names name [] [] len h = refl
  somes_names name [] (t ∷ ts) len h = absurd (omega arith)
  somes_names name (x ∷ xs) [] len h = absurd (omega arith)
  somes_names name (None ∷ xs) (t ∷ ts) len h = absurd (let w = h 0 (omega arith) in cc w.1)
  somes_names name (Some x ∷ xs) (t ∷ ts) len h =
      let w = h 0 (omega arith) in
      let p : x ≡ w.0 = cc w.1 in
      let q : t ≡ name w.0 = cc w.2 in
      let r = somes_names name xs ts (omega arith) (λ i l. h (suc i) (omega arith)) in
      λ i. (ap name p ∙ sym q) i ∷ r i

-- of each that stands in order, what is so at its place
somes_each : {A : Type 0} (P : ℕ → A → Type 0) (xs : List (Option A)) → ((i : ℕ) → i < length xs → (a : A) × (slice_get xs i ≡ Some (Some a)) × P i a) → (i : ℕ) (b : A) → slice_get (somes xs) i ≡ Some b → P i b
somes_each P [] h i b e = absurd (cc e)
somes_each P (None ∷ xs) h i b e = absurd (let w = h 0 (omega arith) in cc w.1)
somes_each P (Some x ∷ xs) h zero b e =
    let w = h 0 (omega arith) in
    let p : x ≡ w.0 = cc w.1 in
    let q : x ≡ b = cc e in
    subst (P 0) (sym p ∙ q) w.2
somes_each P (Some x ∷ xs) h (suc i) b e = somes_each (λ j. P (suc j)) xs (λ j l. h (suc j) (omega arith)) i b e

-- what stands in order stands in its place, and is among what was shared out
pub stand_among : {A : Type 0} (place name : A → ℕ) (ts : List ℕ) (all : List A)
    → ((h : ℕ × ℕ → ℕ) → weigh h (numbered 0 ts) ≡ weigh h (map (λ (a : A). (place a, name a)) all))
    → (i : ℕ) (b : A) → slice_get (somes (placed place (nones (length ts)) all)) i ≡ Some b → (place b ≡ i) × IsAmong all b
stand_among {A} place name ts all shared = somes_each (λ i b. (place b ≡ i) × IsAmong all b) (placed place (nones (length ts)) all)
    (λ i l.
    let within : i < length ts = omega (arith, l, length_placed place name (nones (length ts)) all, length_nones A (length ts)) in
    let zero_is : 0 + i ≡ i = omega arith in
    let given : 0 < weigh (at i) (numbered 0 ts) = subst (λ (j : ℕ). 0 < weigh (at j) (numbered 0 ts)) zero_is (numbered_at 0 ts i within) in
    let s = stands place name (nones (length ts)) all i (omega (arith, length_nones A (length ts), within)) (omega (arith, shared (at i), given)) in
    (s.0, s.1, (s.3, s.4)))

-- what was shared out of the jobs of these names stands in order
pub comes_back : {A : Type 0} (place name : A → ℕ) (ts : List ℕ) (all : List A)
    → ((h : ℕ × ℕ → ℕ) → weigh h (numbered 0 ts) ≡ weigh h (map (λ (a : A). (place a, name a)) all))
    → map name (somes (placed place (nones (length ts)) all)) ≡ ts
comes_back {A} place name ts all shared = somes_names name (placed place (nones (length ts)) all) ts (length_placed place name (nones (length ts)) all ∙ length_nones A (length ts))
    (λ i l.
    let zero_is : 0 + i ≡ i = omega arith in
    let given : 0 < weigh (at i) (numbered 0 ts) = subst (λ (j : ℕ). 0 < weigh (at j) (numbered 0 ts)) zero_is (numbered_at 0 ts i l) in
    let s = stands place name (nones (length ts)) all i (omega (arith, length_nones A (length ts), l)) (omega (arith, shared (at i), given)) in
    let x : ℕ × ℕ = (place s.0, name s.0) in
    let n = numbered_has 0 ts x (omega (arith, shared (is x), s.2)) in
    let e : n.0 ≡ i = omega (arith, n.1, s.3) in
    (s.0, s.1, subst (λ (j : ℕ). slice_get ts j ≡ Some (name s.0)) {x = n.0} e n.2))

module _ {A : Type 0} (place : A → ℕ) where
  set_after : (pre xs : List (Option A)) (x y : Option A) → set (pre ++ x ∷ xs) (length pre) y ≡ pre ++ y ∷ xs
  set_after [] xs x y = refl
  set_after (z ∷ pre) xs x y = ap (λ l. z ∷ l) (set_after pre xs x y)

  -- what stands in order from some place on fills the places from there on
  fills : (pre : List (Option A)) (xs : List A) → ((i : ℕ) (a : A) → slice_get xs i ≡ Some a → place a ≡ length pre + i) → placed place (pre ++ nones (length xs)) xs ≡ pre ++ map Some xs
  fills pre [] stand = refl
  fills pre (x ∷ xs) stand =
      let more : List (Option A) = pre ++ None ∷ [] in
      let count : length more ≡ length pre + 1 = length-append pre (None ∷ []) in
      let rest : placed place (more ++ nones (length xs)) xs ≡ more ++ map Some xs = fills more xs (λ i a e. let s = stand (suc i) a e in omega (arith, s, count)) in
      let slots : pre ++ nones (length (x ∷ xs)) ≡ more ++ nones (length xs) = sym (append_assoc pre (None ∷ []) (nones (length xs))) in
      let at_x : place x ≡ length pre = (let s = stand 0 x refl in omega (arith, s)) in
      ap (λ l. set (placed place l xs) (place x) (Some x)) slots
      ∙ (ap (λ l. set l (place x) (Some x)) (rest ∙ append_assoc pre (None ∷ []) (map Some xs))
      ∙ (ap (λ n. set (pre ++ None ∷ map Some xs) n (Some x)) at_x
      ∙ set_after pre (map Some xs) None (Some x)))

  all_stand : (xs : List A) → somes (map Some xs) ≡ xs
  all_stand [] = refl
  all_stand (x ∷ xs) = ap (λ l. x ∷ l) (all_stand xs)

  -- what stands in order comes back as it is
  pub as_it_is : (xs : List A) → ((i : ℕ) (a : A) → slice_get xs i ≡ Some a → place a ≡ i) → somes (placed place (nones (length xs)) xs) ≡ xs
  as_it_is xs stand = ap somes (fills [] xs (λ i a e. let s = stand i a e in omega (arith, s))) ∙ all_stand xs

nat_is : (n : ℕ) → true ≡ (n == 0) → n ≡ 0
nat_is n none = grind (arith, nat_tests)

pub nothing_left : {X : Type 0} (xs : List X) (n : ℕ) → n ≡ length xs → true ≡ (n == 0) → xs ≡ []
nothing_left xs n many none = nil_from_length xs (omega (arith, many, nat_is n none))
