-- A request waits exactly if somebody blocks it, and a commit exactly if somebody keeps the class from it.
use Rattle.std.proofs.Common.{◌≡◌, ◌≢◌, ℕ, Bool, true, false, not, eqb, ◌&&◌, ◌||◌, List, [], ◌∷◌, ◌++◌, length, refl, sym, ap, ◌∙◌, arith, inl, inr}
use Rattle.std.specs.Prelude.{Some}
use Rattle.std.specs.List.{list_all}
use Rattle.std.proofs.lemmas.Bool.{and_parts, and_from, or_cases, or_left, or_right, or_parts, or_from, eqb-true, eq-eqb, eqb-false, ne_eqb, not-true, false≢true, true≢false}
use Rattle.std.proofs.lemmas.List.Folds.{list_any-append}
use Rattle.asset_names.specs.declared.names.Ob.{Ob}
use Rattle.asset_names.specs.declared.operations.Op.{Op}
use Rattle.asset_names.specs.declared.operations.Op.TheVariants as Op'
use Rattle.asset_names.specs.declared.steps.Step.{Step}
use Rattle.asset_names.specs.Arrows.{lists, linked, among}
use Rattle.asset_names.specs.Steps.{initiated}
use Rattle.asset_names.specs.Endings.{live, status, same_class, class_arrows, order_arrows, has_outside_source}
use Rattle.asset_names.specs.Paths.{has_outside}
use Rattle.asset_names.specs.Answers.{is_completed, class_completed, may_commit}
use Rattle.asset_names.specs.Operations.{conflict, holds, allows, free}
use Rattle.asset_names.proofs.Common.{both_follow}
use Rattle.asset_names.proofs.EndLemmas.{live_parts}
use Rattle.asset_names.proofs.HolderLemmas.{free_allowed, allowed_free}
use Rattle.asset_deps.specs.Dependencies.{is_outside_of}
use Rattle.asset_deps.proofs.OutsideLemmas.{arrow_of_any, any_of_arrow}
use Rattle.asset_ends.specs.Waits.{holds_against, is_blocker, is_unfinished, is_outside_source}
use Rattle.asset_waits.specs.Waiting.{live_who, blockers_of, unfinished_of, outside_sources_of}
use Rattle.asset_waits.proofs.WhoLemmas.{who_listed, blocker_lives, unfinished_lives, source_lives}

-- ---- whether anybody is listed
none_listed : (names : List ℕ) → ((u : ℕ) → lists names u ≡ false) → eqb (length names) 0 ≡ true
unfolding lists
none_listed [] none = refl
none_listed (n ∷ names) none = absurd (true≢false (sym (or_left _ _ (eq-eqb n n refl)) ∙ none n))

listed_none : (names : List ℕ) → eqb (length names) 0 ≡ true → (u : ℕ) → lists names u ≡ false
unfolding lists
listed_none [] none u = refl
listed_none (n ∷ names) none u = absurd (omega (arith, eqb-true (length (n ∷ names)) 0 none))

-- ---- a request
-- who holds by an operation in conflict holds by some one
held_against : (steps : List Step) (u x : ℕ) (op : Op) → holds_against steps u x op ≡ true → (other : Op) × (holds steps u x other ≡ true) × (conflict other op ≡ true)
unfolding holds_against
held_against steps u x op h = elim (or_cases _ _ h) [
  | inl other ↦ elim (or_cases _ _ other) [
    | inl reading ↦ let both = and_parts _ _ reading in (Op'.Read, both.0, both.1)
    | inr writing ↦ let both = and_parts _ _ writing in (Op'.Write, both.0, both.1)
  ]
  | inr adding ↦ let both = and_parts _ _ adding in (Op'.Add, both.0, both.1)
]

against_held : (steps : List Step) (u x : ℕ) (op other : Op) → holds steps u x other ≡ true → conflict other op ≡ true → holds_against steps u x op ≡ true
unfolding holds_against
against_held steps u x op Op'.Read held conflicts = or_left _ _ (or_left _ _ (and_from _ _ held conflicts))
against_held steps u x op Op'.Write held conflicts = or_left _ _ (or_right _ _ (and_from _ _ held conflicts))
against_held steps u x op Op'.Add held conflicts = or_right _ _ (and_from _ _ held conflicts)

-- where x is free, nobody blocks
free_none : (steps : List Step) (t x : ℕ) (op : Op) → free steps t x op ≡ true → (u : ℕ) → is_blocker steps t x op u ≡ false
unfolding is_blocker
free_none steps t x op is_free u = go (not (eqb u t) && not (allows steps u t x op) && holds_against steps u x op) refl where
  go : (b : Bool) → (not (eqb u t) && not (allows steps u t x op) && holds_against steps u x op) ≡ b → b ≡ false
  go false e = refl
  go true e =
      let last = and_parts (not (eqb u t) && not (allows steps u t x op)) (holds_against steps u x op) e in
      let first = and_parts (not (eqb u t)) (not (allows steps u t x op)) last.0 in
      let by = held_against steps u x op last.1 in
      let allowed = free_allowed steps t x op is_free u by.0 by.1 by.2 (eqb-false u t (not-true _ first.0)) in
      absurd (false≢true (sym (not-true _ first.1) ∙ allowed))

-- where nobody blocks, x is free
none_free : (steps : List Step) (t x : ℕ) (op : Op) → ((u : ℕ) → is_blocker steps t x op u ≡ false) → free steps t x op ≡ true
unfolding is_blocker
none_free steps t x op none = allowed_free steps t x op (λ u other held conflicts apart. go u other held conflicts apart (allows steps u t x op) refl) where
  go : (u : ℕ) (other : Op) → holds steps u x other ≡ true → conflict other op ≡ true → u ≢ t → (b : Bool) → allows steps u t x op ≡ b → b ≡ true
  go u other held conflicts apart true e = refl
  go u other held conflicts apart false e =
      let blocks = and_from _ _ (and_from _ _ (ap not (ne_eqb u t apart)) (ap not e)) (against_held steps u x op other held conflicts) in
      absurd (false≢true (sym (none u) ∙ blocks))

pub free_is : (steps : List Step) (t : ℕ) (x : Ob) (op : Op) → free steps t x.0 op ≡ eqb (length (blockers_of steps t (Some (x, op)))) 0
unfolding blockers_of
free_is steps t x op =
    both_follow _ _
    (λ is_free. none_listed (live_who steps (is_blocker steps t x.0 op)) (λ u. listed u ∙ free_none steps t x.0 op is_free u))
    (λ none. none_free steps t x.0 op (λ u. sym (listed u) ∙ listed_none (live_who steps (is_blocker steps t x.0 op)) none u)) where
      listed : (u : ℕ) → lists (live_who steps (is_blocker steps t x.0 op)) u ≡ is_blocker steps t x.0 op u
      listed u = who_listed steps (is_blocker steps t x.0 op) u (blocker_lives steps t x.0 op u)

-- ---- a commit
all_listed : (test : ℕ → Bool) (names : List ℕ) → list_all test names ≡ true → (u : ℕ) → lists names u ≡ true → test u ≡ true
unfolding lists
all_listed test [] all u h = absurd (false≢true h)
all_listed test (n ∷ names) all u h = elim (or_cases (eqb n u) _ h) [
  | inl here ↦ ap test (sym (eqb-true n u here)) ∙ (and_parts (test n) _ all).0
  | inr later ↦ all_listed test names (and_parts (test n) _ all).1 u later
]

listed_all : (test : ℕ → Bool) (names : List ℕ) → ((u : ℕ) → test u ≡ true) → list_all test names ≡ true
listed_all test [] all = refl
listed_all test (n ∷ names) all = and_from _ _ (all n) (listed_all test names all)

-- who is unfinished is a member that has not completed
unfinished_parts : (steps : List Step) (t u : ℕ) → is_unfinished steps t u ≡ true → (same_class steps t u ≡ true) × (is_completed (status steps u) ≡ false)
unfolding is_unfinished
unfinished_parts steps t u h =
    let last = and_parts (live steps t && same_class steps t u) (not (is_completed (status steps u))) h in
    ((and_parts (live steps t) _ last.0).1, not-true _ last.1)

-- where all members have completed, nobody is unfinished
completed_none : (steps : List Step) (t : ℕ) → class_completed steps t ≡ true → (u : ℕ) → is_unfinished steps t u ≡ false
unfolding class_completed
completed_none steps t completed u = go (is_unfinished steps t u) refl where
  passes : is_unfinished steps t u ≡ true → (not (same_class steps t u) || is_completed (status steps u)) ≡ true
  passes h = all_listed (λ n. not (same_class steps t n) || is_completed (status steps n)) (initiated steps) completed u (live_parts steps u (unfinished_lives steps t u h)).0

  go : (b : Bool) → is_unfinished steps t u ≡ b → b ≡ false
  go false e = refl
  go true e =
      let both = unfinished_parts steps t u e in
      absurd (false≢true (sym (or_from _ _ (ap not both.0) both.1) ∙ passes e))

-- where nobody is unfinished, all members have completed
none_completed : (steps : List Step) (t : ℕ) → live steps t ≡ true → ((u : ℕ) → is_unfinished steps t u ≡ false) → class_completed steps t ≡ true
unfolding class_completed is_unfinished
none_completed steps t alive none = listed_all (λ n. not (same_class steps t n) || is_completed (status steps n)) (initiated steps) (λ n. go n (same_class steps t n) (is_completed (status steps n)) refl refl) where
  go : (n : ℕ) (same completed : Bool) → same_class steps t n ≡ same → is_completed (status steps n) ≡ completed → (not same || completed) ≡ true
  go n false completed e f = refl
  go n true true e f = refl
  go n true false e f = absurd (false≢true (sym (none n) ∙ and_from _ _ (and_from _ _ alive e) (ap not f)))

-- where no source lives outside, nobody is one
within_none : (steps : List Step) (t : ℕ) → has_outside_source steps t ≡ false → (u : ℕ) → is_outside_source steps t u ≡ false
unfolding has_outside_source has_outside is_outside_source is_outside_of
within_none steps t within u = go (is_outside_source steps t u) refl where
  go : (b : Bool) → is_outside_source steps t u ≡ b → b ≡ false
  go false e = refl
  go true e =
      let classes = among (live steps) (class_arrows steps) in
      let orders = among (live steps) (order_arrows steps) in
      let parts = and_parts (not (linked classes t u)) _ (and_parts (live steps t) _ e).1 in
      let arrow = arrow_of_any (λ a b. eqb a u && linked classes t b) orders parts.1 in
      let both = and_parts (eqb arrow.0 u) (linked classes t arrow.1) arrow.3 in
      let apart = ap (λ (n : ℕ). not (linked classes t n)) (eqb-true arrow.0 u both.0) ∙ parts.0 in
      absurd (false≢true (sym within ∙ any_of_arrow (λ a b. linked classes t b && not (linked classes t a)) orders arrow.0 arrow.1 arrow.2 (and_from _ _ both.1 apart)))

-- where nobody is one, no source lives outside
none_within : (steps : List Step) (t : ℕ) → live steps t ≡ true → ((u : ℕ) → is_outside_source steps t u ≡ false) → has_outside_source steps t ≡ false
unfolding has_outside_source has_outside is_outside_source is_outside_of
none_within steps t alive none = go (has_outside_source steps t) refl where
  go : (b : Bool) → has_outside_source steps t ≡ b → b ≡ false
  go false e = refl
  go true e =
      let classes = among (live steps) (class_arrows steps) in
      let orders = among (live steps) (order_arrows steps) in
      let arrow = arrow_of_any (λ a b. linked classes t b && not (linked classes t a)) orders e in
      let both = and_parts (linked classes t arrow.1) (not (linked classes t arrow.0)) arrow.3 in
      let leads = any_of_arrow (λ a b. eqb a arrow.0 && linked classes t b) orders arrow.0 arrow.1 arrow.2 (and_from _ _ (eq-eqb arrow.0 arrow.0 refl) both.0) in
      absurd (false≢true (sym (none arrow.0) ∙ and_from _ _ alive (and_from _ _ both.1 leads)))

pub may_commit_is : (steps : List Step) (t : ℕ) → live steps t ≡ true → may_commit steps t ≡ eqb (length (unfinished_of steps t ++ outside_sources_of steps t)) 0
unfolding may_commit unfinished_of outside_sources_of lists
may_commit_is steps t alive =
    both_follow _ _
    (λ may. none_listed (unfinished ++ sources) (λ u. neither (and_parts (class_completed steps t) (not (has_outside_source steps t)) may).0 (not-true _ (and_parts (class_completed steps t) _ may).1) u))
    (λ none. and_from _ _ (none_completed steps t alive (λ u. sym (unfinished_listed u) ∙ (parts none u).0)) (ap not (none_within steps t alive (λ u. sym (sources_listed u) ∙ (parts none u).1)))) where
      unfinished : List ℕ
      unfinished = live_who steps (is_unfinished steps t)

      sources : List ℕ
      sources = live_who steps (is_outside_source steps t)

      unfinished_listed : (u : ℕ) → lists unfinished u ≡ is_unfinished steps t u
      unfinished_listed u = who_listed steps (is_unfinished steps t) u (unfinished_lives steps t u)

      sources_listed : (u : ℕ) → lists sources u ≡ is_outside_source steps t u
      sources_listed u = who_listed steps (is_outside_source steps t) u (source_lives steps t u)

      neither : class_completed steps t ≡ true → has_outside_source steps t ≡ false → (u : ℕ) → lists (unfinished ++ sources) u ≡ false
      neither completed within u =
          list_any-append (λ m. eqb m u) unfinished sources
          ∙ or_from _ _ (unfinished_listed u ∙ completed_none steps t completed u) (sources_listed u ∙ within_none steps t within u)

      parts : eqb (length (unfinished ++ sources)) 0 ≡ true → (u : ℕ) → (lists unfinished u ≡ false) × (lists sources u ≡ false)
      parts none u = or_parts _ _ (sym (list_any-append (λ m. eqb m u) unfinished sources) ∙ listed_none (unfinished ++ sources) none u)
