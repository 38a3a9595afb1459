-- Arrows between places are waits, and chains of arrows are chains of waits.
use Rattle.std.proofs.Common.{◌≡◌, ℕ, zero, suc, ◌+◌, ◌<◌, Bool, true, false, cond, not, eqb, ltb, ◌&&◌, ◌||◌, List, [], ◌∷◌, ◌++◌, length, get_or, refl, sym, ap, subst, ◌∙◌, arith, inl, inr}
use Rattle.std.specs.Prelude.{nat_eq, Option, Some, None, unwrap_or, flat_map}
use Rattle.std.specs.List.{list_any, filter, position_or_len, range_with_len}
use Rattle.std.proofs.lemmas.Bool.{and_parts, and_from, or_cases, or_left, or_right, eqb-true, eq-eqb, eqb-false, ltb-false, false≢true}
use Rattle.std.proofs.lemmas.List.Folds.{list_any-append}
use Rattle.std.proofs.lemmas.List.Quantifiers.{position-Some}
use Rattle.std.proofs.lemmas.List.Sums.{prefix_len_passes}
use Rattle.asset_names.specs.declared.names.Ob.{Ob}
use Rattle.asset_names.specs.declared.operations.Op.{Op}
use Rattle.asset_names.specs.declared.statuses.Status.{Status}
use Rattle.asset_names.specs.declared.statuses.Status.TheVariants as Status'
use Rattle.asset_names.specs.declared.steps.Step.{Step}
use Rattle.asset_names.specs.Arrows.{Arrow, lists, has_arrow}
use Rattle.asset_names.specs.Endings.{live, status}
use Rattle.asset_names.proofs.ListLemmas.{any_map, listed_any, listed_at}
use Rattle.asset_core.specs.Pending.{Pending, pending_of}
use Rattle.asset_ends.specs.Waits.{is_blocker, is_unfinished, is_outside_source}
use Rattle.asset_ends.proofs.EnrolledLemmas.{lists_filter}
use Rattle.asset_waits.specs.Waiting.{live_names, live_who, blockers_of, unfinished_of, outside_sources_of, waits_as, waits_for}
use Rattle.asset_waits.specs.Deadlocks.{place_of, arrow_to, arrows_from, arrows_before}
use Rattle.asset_waits.specs.Chains.{WaitChain, waits, through}
use Rattle.asset_names.proofs.MoreLemmas.{numbers_more}
use Rattle.asset_waits.proofs.RisingLemmas.{rising_lists}
use Rattle.asset_waits.proofs.WhoLemmas.{live_listed}

-- ---- who is waited for is live
who_lives : (steps : List Step) (test : ℕ → Bool) (u : ℕ) → lists (live_who steps test) u ≡ true → live steps u ≡ true
unfolding live_who
who_lives steps test u h = sym (live_listed steps u) ∙ (and_parts (test u) _ (sym (lists_filter test (live_names steps) u) ∙ sym (rising_lists (filter test (live_names steps)) u) ∙ h)).1

blockers_live : (steps : List Step) (t : ℕ) (request : Option (Ob × Op)) (u : ℕ) → lists (blockers_of steps t request) u ≡ true → live steps u ≡ true
unfolding blockers_of lists
blockers_live steps t None u h = absurd (false≢true h)
blockers_live steps t (Some request) u h = who_lives steps (is_blocker steps t request.0.0 request.1) u h

commit_live : (steps : List Step) (t u : ℕ) → lists (unfinished_of steps t ++ outside_sources_of steps t) u ≡ true → live steps u ≡ true
unfolding unfinished_of outside_sources_of lists
commit_live steps t u h = elim (or_cases _ _ (sym (list_any-append (λ m. eqb m u) (unfinished_of steps t) (outside_sources_of steps t)) ∙ h)) [
  | inl here ↦ who_lives steps (is_unfinished steps t) u here
  | inr here ↦ who_lives steps (is_outside_source steps t) u here
]

waited_as : (as_is : Status) (steps : List Step) (pending : List Pending) (t u : ℕ) → lists (waits_as as_is steps pending t) u ≡ true → live steps u ≡ true
unfolding waits_as lists
waited_as Status'.Running steps pending t u h = blockers_live steps t (pending_of t pending) u h
waited_as Status'.Completed steps pending t u h = commit_live steps t u h
waited_as as_is steps pending t u h = absurd (false≢true h)

pub waited_lives : (steps : List Step) (pending : List Pending) (t u : ℕ) → lists (waits_for steps pending t) u ≡ true → live steps u ≡ true
unfolding waits_for
waited_lives steps pending t u h = waited_as (status steps t) steps pending t u h

pub chain_lives : (steps : List Step) (pending : List Pending) (t u : ℕ) → WaitChain steps pending t u → live steps u ≡ true
chain_lives steps pending t u (waits a b first) = waited_lives steps pending t u first
chain_lives steps pending t v (through a u c first rest) = chain_lives steps pending u v rest

-- ---- the place of a name
place_there : (names : List ℕ) (u : ℕ) → lists names u ≡ true → (place_of names u < length names) × (get_or names (place_of names u) 0 ≡ u)
unfolding place_of
place_there names u listed = go (ltb (position_or_len (nat_eq u) names) (length names)) refl where
  go : (there : Bool) → ltb (position_or_len (nat_eq u) names) (length names) ≡ there
      → (unwrap_or (cond there (Some (position_or_len (nat_eq u) names)) None) 0 < length names) × (get_or names (unwrap_or (cond there (Some (position_or_len (nat_eq u) names)) None) 0) 0 ≡ u)
  go true is =
      let at = position-Some (nat_eq u) names (position_or_len (nat_eq u) names) 0 (ap (λ (b : Bool). cond b (Some (position_or_len (nat_eq u) names)) None) is) in
      (at.0, sym (eqb-true u _ at.1))
  go false is =
      let at = listed_at names u listed in
      let passes : not (eqb u (get_or names at.0 0)) ≡ true = prefix_len_passes (λ m. not (eqb u m)) names at.0 0 (omega (arith, at.1, ltb-false _ _ is)) in
      absurd (false≢true (sym (ap not (eq-eqb u (get_or names at.0 0) (sym at.2))) ∙ passes))

pub live_place : (steps : List Step) (u : ℕ) → live steps u ≡ true → (place_of (live_names steps) u < length (live_names steps)) × (get_or (live_names steps) (place_of (live_names steps) u) 0 ≡ u)
live_place steps u alive = place_there (live_names steps) u (live_listed steps u ∙ alive)

-- ---- arrows are waits
any_found : (test : ℕ → Bool) (names : List ℕ) → list_any test names ≡ true → (u : ℕ) × (lists names u ≡ true) × (test u ≡ true)
unfolding lists
any_found test [] h = absurd (false≢true h)
any_found test (n ∷ names) h = elim (or_cases (test n) _ h) [
  | inl here ↦ (n, or_left _ _ (eq-eqb n n refl), here)
  | inr later ↦ let found = any_found test names later in (found.0, or_right (eqb n found.0) _ found.1, found.2)
]

module _ (steps : List Step) (pending : List Pending) (names : List ℕ) where
  leads_from : (from a c : ℕ) → has_arrow (arrows_from steps pending names from) a c ≡ list_any (λ u. eqb from a && eqb (place_of names u) c) (waits_for steps pending (get_or names from 0))
  unfolding arrows_from arrow_to has_arrow
  leads_from from a c = any_map (λ (arrow : Arrow). eqb arrow.0 a && eqb arrow.1 c) (arrow_to names from) (waits_for steps pending (get_or names from 0))

  leads_more : (n a c : ℕ) → has_arrow (arrows_before steps pending names (suc n)) a c ≡ (has_arrow (arrows_before steps pending names n) a c || has_arrow (arrows_from steps pending names n) a c)
  unfolding arrows_before has_arrow
  leads_more n a c =
      let next : suc n ≡ n + 1 = omega arith in
      let test : Arrow → Bool = λ arrow. eqb arrow.0 a && eqb arrow.1 c in
      ap (λ (m : ℕ). list_any test (flat_map (arrows_from steps pending names) (range_with_len 0 m))) next
      ∙ ap (list_any test) (numbers_more (arrows_from steps pending names) n)
      ∙ list_any-append test (flat_map (arrows_from steps pending names) (range_with_len 0 n)) (arrows_from steps pending names n)

  pub arrow_waits : (count a c : ℕ) → has_arrow (arrows_before steps pending names count) a c ≡ true → (u : ℕ) × (lists (waits_for steps pending (get_or names a 0)) u ≡ true) × (place_of names u ≡ c)
  unfolding arrows_before has_arrow
  arrow_waits zero a c h = absurd (false≢true h)
  arrow_waits (suc n) a c h = elim (or_cases _ _ (sym (leads_more n a c) ∙ h)) [
    | inl before ↦ arrow_waits n a c before
    | inr here ↦
        let found = any_found (λ u. eqb n a && eqb (place_of names u) c) (waits_for steps pending (get_or names n 0)) (sym (leads_from n a c) ∙ here) in
        let both = and_parts (eqb n a) _ found.2 in
        (found.0, subst (λ (m : ℕ). lists (waits_for steps pending (get_or names m 0)) found.0 ≡ true) (eqb-true n a both.0) found.1, eqb-true (place_of names found.0) c both.1)
  ]

  pub waits_arrow : (count a u : ℕ) → a < count → lists (waits_for steps pending (get_or names a 0)) u ≡ true → has_arrow (arrows_before steps pending names count) a (place_of names u) ≡ true
  waits_arrow zero a u below h = absurd (omega (arith, below))
  waits_arrow (suc n) a u below h = leads_more n a (place_of names u) ∙ go (eqb n a) refl (λ (less : a < n). waits_arrow n a u less h) where
    go : (last : Bool) → eqb n a ≡ last → (a < n → has_arrow (arrows_before steps pending names n) a (place_of names u) ≡ true)
        → (has_arrow (arrows_before steps pending names n) a (place_of names u) || has_arrow (arrows_from steps pending names n) a (place_of names u)) ≡ true
    go true is before = or_right _ _ (leads_from n a (place_of names u) ∙ listed_any (λ v. eqb n a && eqb (place_of names v) (place_of names u)) (waits_for steps pending (get_or names n 0)) u
        (subst (λ (m : ℕ). lists (waits_for steps pending (get_or names m 0)) u ≡ true) (sym (eqb-true n a is)) h) (and_from _ _ is (eq-eqb _ _ refl)))
    go false is before = or_left _ _ (before (omega (arith, below, eqb-false n a is)))
