-- Marks for the numbers of a window.
use Rattle.std.proofs.Common.{◌≡◌, ◌≢◌, ℕ, zero, suc, ◌+◌, ◌-◌, ◌<◌, ◌≤◌, ◌⊎◌, inl, inr, ⊎_elim, List, [], ◌∷◌, length, take, slice_get, get_or, set, replicate, Some, Bool, true, false, true≢false, sym, ap, ◌∙◌, subst, refl, arith}
use native.Mathlib.Decide.{dec_lt, ℕ_discrete}
use Rattle.std.proofs.Math.ListN.{length-set}
use Rattle.std.proofs.lemmas.List.{get_or-set_same}
use Rattle.std.proofs.lemmas.Option.{slice_get-get_or}
use Rattle.asset_audit.specs.Audited.{Call, Rises, HasNumber, AnyHas}
use Rattle.asset_audit.specs.Apart.{IsMarked, HasMark, AreApartIn, AreApartBelow, SharesEarlier}
use Rattle.asset_audit.proofs.Places.{take_there, take_within, there_take}

-- one of the first n calls has the number
abbrev pub HasBelow : List Call → ℕ → ℕ → Type 0
HasBelow l n number = (k : ℕ) × (c : Call) × (k < n) × (slice_get l k ≡ Some c) × (c.0 ≡ number)

-- the first n calls are marked, and none was before
pub record Marks (l : List Call) (n first : ℕ) (before after : List Bool) : Type 0 where
  pub size : length after ≡ length before
  pub fresh : (k j : ℕ) (c : Call) → k < n → slice_get l k ≡ Some c → c.0 ≡ first + j → j < length before → slice_get before j ≡ Some false
  pub marked : (k j : ℕ) (c : Call) → k < n → slice_get l k ≡ Some c → c.0 ≡ first + j → j < length before → slice_get after j ≡ Some true
  pub kept : (j : ℕ) → slice_get before j ≡ Some true → slice_get after j ≡ Some true
  pub only : (j : ℕ) → slice_get after j ≡ Some true → (slice_get before j ≡ Some true) ⊎ HasBelow l n (first + j)

-- what the first n sessions have of the window is marked, and they have none of it in common
pub record ShowsSeen (ss : List (List Call)) (n first width : ℕ) (marks : List Bool) : Type 0 where
  pub size : length marks ≡ width
  pub apart : AreApartIn ss n first width
  pub marked : (i j : ℕ) (l : List Call) → i < n → slice_get ss i ≡ Some l → j < width → HasNumber l (first + j) → slice_get marks j ≡ Some true
  pub only : (j : ℕ) → slice_get marks j ≡ Some true → AnyHas (take n ss) (first + j)

some_inj : {X : Type 0} (a b : X) → Some a ≡ Some b → a ≡ b
some_inj a b e = cc

-- no mark is set and not set
both : (marks : List Bool) (j : ℕ) → slice_get marks j ≡ Some true → slice_get marks j ≡ Some false → ⊥
both marks j set clear = true≢false (some_inj true false (sym set ∙ clear))

set_here : (marks : List Bool) (j : ℕ) (b : Bool) → j < length marks → slice_get (set marks j b) j ≡ Some b
set_here marks j b lt = slice_get-get_or (set marks j b) j b (omega (arith, length-set marks j b, lt)) ∙ ap Some (get_or-set_same marks j b b lt)

set_other : (marks : List Bool) (i j : ℕ) (b : Bool) → i ≢ j → slice_get (set marks j b) i ≡ slice_get marks i
set_other [] i j b other = refl
set_other (m ∷ ms) zero zero b other = absurd (other refl)
set_other (m ∷ ms) zero (suc j) b other = refl
set_other (m ∷ ms) (suc i) zero b other = refl
set_other (m ∷ ms) (suc i) (suc j) b other = set_other ms i j b (λ e. other (ap suc e))

-- a mark that is there is set or not
not_set : (marks : List Bool) (j : ℕ) → j < length marks → ¬ (slice_get marks j ≡ Some true) → slice_get marks j ≡ Some false
not_set marks j within never = go (get_or marks j false) refl where
  there : slice_get marks j ≡ Some (get_or marks j false)
  there = slice_get-get_or marks j false within

  go : (b : Bool) → get_or marks j false ≡ b → slice_get marks j ≡ Some false
  go true e = absurd (never (there ∙ ap Some e))
  go false e = there ∙ ap Some e

-- one call more, whose mark was not set
pub marks_one : (l : List Call) (n first j : ℕ) (c : Call) (before after : List Bool) → slice_get l n ≡ Some c → c.0 ≡ first + j → j < length after → slice_get after j ≡ Some false
    → Marks l n first before after → Marks l (n + 1) first before (set after j true)
marks_one l n first j c before after at is within clear marks = record { size = length-set after j true ∙ marks.size; fresh = fresh; marked = marked; kept = kept; only = only } where
  here : slice_get (set after j true) j ≡ Some true
  here = set_here after j true within

  now : (i : ℕ) → slice_get after i ≡ Some true → slice_get (set after j true) i ≡ Some true
  now i was = go (ℕ_discrete i j) where
    go : Dec (i ≡ j) → slice_get (set after j true) i ≡ Some true
    go (yes same) = subst (λ x. slice_get (set after j true) x ≡ Some true) (sym same) here
    go (no other) = set_other after i j true other ∙ was

  same_call : (k : ℕ) (d : Call) (i : ℕ) → slice_get l k ≡ Some d → d.0 ≡ first + i → k ≡ n → i ≡ j
  same_call k d i e number same = let one : d ≡ c = some_inj d c (sym e ∙ (ap (slice_get l) same ∙ at)) in let numbers : d.0 ≡ c.0 = ap (λ (x : Call). x.0) one in omega arith

  fresh : (k i : ℕ) (d : Call) → k < n + 1 → slice_get l k ≡ Some d → d.0 ≡ first + i → i < length before → slice_get before i ≡ Some false
  fresh k i d lt e number inside = go (ℕ_discrete k n) where
    go : Dec (k ≡ n) → slice_get before i ≡ Some false
    go (yes same) = not_set before i inside (λ set. both after j (subst (λ x. slice_get after x ≡ Some true) (same_call k d i e number same) (marks.kept i set)) clear)
    go (no other) = marks.fresh k i d (omega arith) e number inside

  marked : (k i : ℕ) (d : Call) → k < n + 1 → slice_get l k ≡ Some d → d.0 ≡ first + i → i < length before → slice_get (set after j true) i ≡ Some true
  marked k i d lt e number inside = go (ℕ_discrete k n) where
    go : Dec (k ≡ n) → slice_get (set after j true) i ≡ Some true
    go (yes same) = subst (λ x. slice_get (set after j true) x ≡ Some true) (sym (same_call k d i e number same)) here
    go (no other) = now i (marks.marked k i d (omega arith) e number inside)

  kept : (i : ℕ) → slice_get before i ≡ Some true → slice_get (set after j true) i ≡ Some true
  kept i set = now i (marks.kept i set)

  only : (i : ℕ) → slice_get (set after j true) i ≡ Some true → (slice_get before i ≡ Some true) ⊎ HasBelow l (n + 1) (first + i)
  only i set = go (ℕ_discrete i j) where
    more : HasBelow l n (first + i) → HasBelow l (n + 1) (first + i)
    more has = (has.0, has.1, omega (arith, has.2), has.3, has.4)

    go : Dec (i ≡ j) → (slice_get before i ≡ Some true) ⊎ HasBelow l (n + 1) (first + i)
    go (yes same) = inr (n, c, omega arith, at, is ∙ ap (λ x. first + x) (sym same))
    go (no other) = ⊎_elim (λ old. inl old) (λ has. inr (more has)) (marks.only i (sym (set_other after i j true other) ∙ set))

-- when the other calls are past the window
pub marks_all : (l : List Call) (n first : ℕ) (before after : List Bool) → ((k : ℕ) (c : Call) → n ≤ k → slice_get l k ≡ Some c → first + length before ≤ c.0) → Marks l n first before after
    → IsMarked l first before after
marks_all l n first before after past marks = record {
  fresh = λ j within has. marks.fresh has.0 j has.1 (place has.0 j has.1 within has.2 has.3) has.2 has.3 within;
  marked = λ j within has. marks.marked has.0 j has.1 (place has.0 j has.1 within has.2 has.3) has.2 has.3 within;
  kept = marks.kept;
  only = λ j set. ⊎_elim (λ old. inl old) (λ has. inr (has.0, has.1, has.3, has.4)) (marks.only j set);
} where
  place : (k j : ℕ) (c : Call) → j < length before → slice_get l k ≡ Some c → c.0 ≡ first + j → k < n
  place k j c within e number = go (dec_lt k n) where
    go : Dec (k < n) → k < n
    go (yes lt) = lt
    go (no ge) = absurd (let far = past k c (omega arith) e in omega arith)

-- a call whose mark is set, although none of those before it has its number
pub marks_shared : (l : List Call) (n first j : ℕ) (c : Call) (before after : List Bool) → Rises l → slice_get l n ≡ Some c → c.0 ≡ first + j → j < length before → slice_get after j ≡ Some true
    → Marks l n first before after → HasMark l first before
marks_shared l n first j c before after rises at is within set marks = record { offset = j; within = within; has = (n, c, at, is); set = was } where
  was : slice_get before j ≡ Some true
  was = ⊎_elim (λ old. old) (λ has. absurd (let lower : has.1.0 < c.0 = rises has.0 n has.1 c has.2 has.3 at in let number : has.1.0 ≡ first + j = has.4 in omega arith)) (marks.only j set)

never_set : (n j : ℕ) → slice_get (replicate n false) j ≡ Some true → ⊥
never_set zero j e = absurd (let none : slice_get [] j ≡ Some true = e in cc)
never_set (suc n) zero e = absurd (true≢false (sym (some_inj false true e)))
never_set (suc n) (suc j) e = never_set n j e

length_of-replicate : (n : ℕ) → length (replicate n false) ≡ n
length_of-replicate zero = refl
length_of-replicate (suc n) = ap suc (length_of-replicate n)

-- no mark is set
pub seen_none : (ss : List (List Call)) (first width : ℕ) → ShowsSeen ss 0 first width (replicate width false)
seen_none ss first width = record {
  size = length_of-replicate width;
  apart = record { apart = λ i k a b j lt none. absurd (omega (arith, none)) };
  marked = λ i j l none. absurd (omega (arith, none));
  only = λ j set. absurd (never_set width j set);
}

-- the marks after one session more
pub seen_more : (ss : List (List Call)) (n first width : ℕ) (l : List Call) (before after : List Bool) → slice_get ss n ≡ Some l → ShowsSeen ss n first width before → length after ≡ length before
    → IsMarked l first before after → ShowsSeen ss (n + 1) first width after
seen_more ss n first width l before after at seen size more = record { size = size ∙ seen.size; apart = record { apart = apart }; marked = marked; only = only } where
  whole : length before ≡ width
  whole = seen.size

  only : (j : ℕ) → slice_get after j ≡ Some true → AnyHas (take (n + 1) ss) (first + j)
  only j set = ⊎_elim (λ old. let has = seen.only j old in (has.0, has.1, there_take (n + 1) ss has.0 has.1 (let h = take_within n ss has.0 has.1 has.2 in omega arith) (take_there n ss has.0 has.1 has.2), has.3))
      (λ has. (n, l, there_take (n + 1) ss n l (omega arith) at, has)) (more.only j set)

  is_it : (i : ℕ) (m : List Call) → slice_get ss i ≡ Some m → i ≡ n → m ≡ l
  is_it i m e same = some_inj m l (sym e ∙ (ap (slice_get ss) same ∙ at))

  marked : (i j : ℕ) (m : List Call) → i < n + 1 → slice_get ss i ≡ Some m → j < width → HasNumber m (first + j) → slice_get after j ≡ Some true
  marked i j m lt e within has = go (ℕ_discrete i n) where
    go : Dec (i ≡ n) → slice_get after j ≡ Some true
    go (yes same) = more.marked j (omega (arith, whole)) (subst (λ (x : List Call). HasNumber x (first + j)) (is_it i m e same) has)
    go (no other) = more.kept j (seen.marked i j m (omega arith) e within has)

  apart : (i k : ℕ) (a b : List Call) (j : ℕ) → i < k → k < n + 1 → slice_get ss i ≡ Some a → slice_get ss k ≡ Some b → j < width → HasNumber a (first + j) → ¬ HasNumber b (first + j)
  apart i k a b j lt most ea eb within in_a in_b = go (ℕ_discrete k n) where
    go : Dec (k ≡ n) → ⊥
    go (yes same) = both before j (seen.marked i j a (omega arith) ea within in_a)
        (more.fresh j (omega (arith, whole)) (subst (λ (x : List Call). HasNumber x (first + j)) (is_it k b eb same) in_b))
    go (no other) = seen.apart.apart i k a b j lt (omega arith) ea eb within in_a in_b

-- a session that has a marked number
pub seen_shared : (ss : List (List Call)) (n first width : ℕ) (l : List Call) (marks : List Bool) → slice_get ss n ≡ Some l → ShowsSeen ss n first width marks → HasMark l first marks → SharesEarlier ss n
seen_shared ss n first width l marks at seen has = record { list = l; at_place = at; number = first + has.offset; has = has.has; earlier = seen.only has.offset has.set }

-- fewer sessions
pub apart_fewer : (ss : List (List Call)) (m n first width : ℕ) → m ≤ n → AreApartIn ss n first width → AreApartIn ss m first width
apart_fewer ss m n first width most are = record { apart = λ i k a b j lt within. are.apart i k a b j lt (omega (arith, within, most)) }

-- one window more, in which fewer sessions may be apart
pub apart_more : (ss : List (List Call)) (most n first width : ℕ) → n ≤ most → AreApartBelow ss most first → AreApartIn (take most ss) n first width → AreApartBelow ss n (first + width)
apart_more ss most n first width fewer old new = record { apart = apart } where
  apart : (i k : ℕ) (a b : List Call) (q : ℕ) → i < k → k < n → slice_get ss i ≡ Some a → slice_get ss k ≡ Some b → q < first + width → HasNumber a q → ¬ HasNumber b q
  apart i k a b q lt within ea eb below in_a in_b = go (dec_lt q first) where
    go : Dec (q < first) → ⊥
    go (yes earlier) = old.apart i k a b q lt (omega arith) ea eb earlier in_a in_b
    go (no later) =
        let e : q ≡ first + (q - first) = omega arith in
        new.apart i k a b (q - first) lt within (there_take most ss i a (omega arith) ea) (there_take most ss k b (omega arith) eb) (omega arith) (subst (HasNumber a) e in_a) (subst (HasNumber b) e in_b)

pub apart_lower : (ss : List (List Call)) (n high low : ℕ) → low ≤ high → AreApartBelow ss n high → AreApartBelow ss n low
apart_lower ss n high low most are = record { apart = λ i k a b q lt within ea eb below. are.apart i k a b q lt within ea eb (omega (arith, below, most)) }

-- a session that shares a number with an earlier one, among the first ones
pub shares_more : (ss : List (List Call)) (most n : ℕ) → n < most → SharesEarlier (take most ss) n → SharesEarlier ss n
shares_more ss most n lt shares = record { list = shares.list; at_place = take_there most ss n shares.list shares.at_place; number = shares.number; has = shares.has; earlier = earlier } where
  earlier : AnyHas (take n ss) shares.number
  earlier =
      let has = shares.earlier in
      (has.0, has.1, there_take n ss has.0 has.1 (take_within n (take most ss) has.0 has.1 has.2) (take_there most ss has.0 has.1 (take_there n (take most ss) has.0 has.1 has.2)), has.3)

-- the next session after those that are apart: an earlier one that shares a number, or the one that was next
pub shares_next : (ss : List (List Call)) (before now : ℕ) → now ≤ before → (now < before → SharesEarlier (take before ss) now) → (now ≡ before → SharesEarlier ss before) → SharesEarlier ss now
shares_next ss before now most new old = go (dec_lt now before) where
  go : Dec (now < before) → SharesEarlier ss now
  go (yes lt) = shares_more ss before now lt (new lt)
  go (no ge) = let same : now ≡ before = omega arith in subst (SharesEarlier ss) (sym same) (old same)
