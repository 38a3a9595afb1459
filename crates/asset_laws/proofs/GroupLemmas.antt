-- Groups, and what is left of a legal history without dead ones.
use Rattle.std.proofs.Common.{◌≡◌, ◌≢◌, ℕ, Bool, true, false, cond, not, eqb, ◌&&◌, ◌||◌, List, [], ◌∷◌, ◌++◌, refl, sym, ◌∙◌, ap, ◌⊎◌, inl, inr, None, Some}
use Rattle.std.specs.Prelude.{Option, is_some}
use Rattle.std.specs.List.{list_any}
use Rattle.std.proofs.lemmas.Bool.{or_cases, or_left, or_right, and_parts, and_from, eqb-true, eq-eqb, false≢true, not-true, not-false}
use Rattle.asset_names.specs.declared.statuses.End.{End}
use Rattle.asset_names.specs.declared.statuses.End.TheVariants as End'
use Rattle.asset_names.specs.declared.steps.Step.{Step}
use Rattle.asset_names.specs.declared.steps.Step.TheVariants.{Initiate, Begin, Read, Write, Add, Complete, Permit, PermitAny, Delegate, Depend, Commit, Abort, WaitFor}
use Rattle.asset_names.specs.declared.replies.Outcome.TheVariants.{Answer}
use Rattle.asset_names.specs.Arrows.{lists, has_arrow}
use Rattle.asset_names.specs.Paths.{both_ways}
use Rattle.asset_names.specs.Steps.{Opening, Entry, takes_effect, applied, initiated, initiated_by}
use Rattle.asset_names.specs.Endings.{end_of}
use Rattle.asset_names.specs.Groups.{actor, partner, met, joined_by, joins, same_group, acted_on_by, acted_on, was_committed, dead, stays, kept, without}
use Rattle.asset_names.specs.Answers.{answer, IsLegal}
use Rattle.asset_names.proofs.Common.{both_follow}
use Rattle.asset_names.proofs.ListLemmas.{any_alike, listed_any}
use Rattle.asset_names.proofs.Arrows.{linked_refl, linked_trans}
use Rattle.asset_names.proofs.PermitLemmas.{linked_has}
use Rattle.asset_names.proofs.DependLemmas.{has_append, has_both}
use Rattle.asset_names.proofs.LegalLemmas.{ended_initiated}
use Rattle.asset_laws.proofs.PathLemmas.{linked_back}
use Rattle.asset_laws.proofs.KeepLinks.{Keeps}
use Rattle.asset_laws.proofs.AnswersAlike.{Uncommitted}
use Rattle.asset_laws.proofs.OpenLemmas.{opened_met}
use Rattle.asset_laws.proofs.KeptLemmas.{RespectsEntries, uncommitted_before, kept_answered, legal_kept}

-- ---- groups

pub group_refl : (entries : List Entry) (a : ℕ) → same_group entries a a ≡ true
unfolding same_group
group_refl entries a = linked_refl (both_ways (joins entries)) a

pub group_trans : (entries : List Entry) (a b c : ℕ) → same_group entries a b ≡ true → same_group entries b c ≡ true → same_group entries a c ≡ true
unfolding same_group
group_trans entries = linked_trans (both_ways (joins entries))

pub group_sym : (entries : List Entry) (a b : ℕ) → same_group entries a b ≡ true → same_group entries b a ≡ true
unfolding same_group
group_sym entries = linked_back (both_ways (joins entries)) (λ u v h. has_both (joins entries) v u ∙ turned (has_arrow (joins entries) u v) (has_arrow (joins entries) v u) (sym (has_both (joins entries) u v) ∙ h)) where
  turned : (x y : Bool) → (x || y) ≡ true → (y || x) ≡ true
  turned true true h = refl
  turned true false h = refl
  turned false true h = refl
  turned false false h = h

-- the members of a group are of one group with the same ones
pub group_alike : (entries : List Entry) (a b c : ℕ) → same_group entries a b ≡ true → same_group entries c a ≡ same_group entries c b
group_alike entries a b c same = both_follow _ _ (λ h. group_trans entries c a b h same) (λ h. group_trans entries c b a h (group_sym entries a b same))

-- an entry's two transactions are of one group
pub joined_same : (entries : List Entry) (u v : ℕ) → has_arrow (joins entries) u v ≡ true → same_group entries u v ≡ true
unfolding same_group
joined_same entries u v h = linked_has (both_ways (joins entries)) u v (has_both (joins entries) u v ∙ or_left _ _ h)

-- the joins of an entry: of its two transactions, of those whom it meets, and the older ones
pub own_join : (entry : Entry) (older : List Entry) → has_arrow (joins (entry ∷ older)) (actor entry.0).0 (partner entry.0).0 ≡ true
unfolding joins joined_by has_arrow
own_join entry older = or_left _ _ (and_from _ _ (eq-eqb (actor entry.0).0 (actor entry.0).0 refl) (eq-eqb (partner entry.0).0 (partner entry.0).0 refl))

pub later_join : (entry : Entry) (older : List Entry) (u v : ℕ) → has_arrow (joins older) u v ≡ true → has_arrow (joins (entry ∷ older)) u v ≡ true
unfolding joins joined_by
later_join entry older u v h = has_append (joined_by entry older) (joins older) u v ∙ or_right (has_arrow (joined_by entry older) u v) _ h

pub met_join : (entry : Entry) (older : List Entry) → takes_effect entry.0 entry.1 ≡ true → (v : ℕ) → has_arrow (met entry.0 (applied older)) (actor entry.0).0 v ≡ true → has_arrow (joins (entry ∷ older)) (actor entry.0).0 v ≡ true
unfolding joins joined_by has_arrow
met_join entry older effect v h =
    has_append (joined_by entry older) (joins older) (actor entry.0).0 v ∙ or_left _ _ (or_right (eqb (actor entry.0).0 (actor entry.0).0 && eqb (partner entry.0).0 v) _ (rw (effect) h))

-- where each join has both its ends kept or neither, so has each entry
pub keeps_respects : (keep : ℕ → Bool) (entries : List Entry) → Keeps keep (joins entries) → RespectsEntries keep entries
unfolding RespectsEntries
keeps_respects keep [] keeps = _
keeps_respects keep (entry ∷ older) keeps = (
  (
    keeps (actor entry.0).0 (partner entry.0).0 (own_join entry older),
    λ effect x on. opened_met (λ a. keep a ≡ keep (actor entry.0).0) entry.0 x on (applied older) (λ v h. sym (keeps (actor entry.0).0 v (met_join entry older effect v h))),
  ),
  keeps_respects keep older (λ u v h. keeps u v (later_join entry older u v h)),
)

-- each entry has both its transactions in t's group, or neither
pub group_keeps : (entries : List Entry) (t : ℕ) → Keeps (same_group entries t) (joins entries)
group_keeps entries t u v h = group_alike entries u v t (joined_same entries u v h)

-- ---- who stays

pub stays_alike : (entries : List Entry) (chosen : List ℕ) (u v : ℕ) → same_group entries u v ≡ true → stays entries chosen u ≡ stays entries chosen v
unfolding stays
stays_alike entries chosen u v same =
    ap not (any_alike (λ c. same_group entries c u && dead entries c) (λ c. same_group entries c v && dead entries c) chosen (λ c. ap (λ b. b && dead entries c) (group_alike entries u v c same)))

pub stays_keeps : (entries : List Entry) (chosen : List ℕ) → Keeps (stays entries chosen) (joins entries)
stays_keeps entries chosen u v h = stays_alike entries chosen u v (joined_same entries u v h)

-- some item of a list passes a test
found : {A : Type 0} (test : A → Bool) (xs : List A) → list_any test xs ≡ true → (x : A) × (test x ≡ true)
found test [] h = absurd (false≢true h)
found test (x ∷ xs) h = elim (or_cases (test x) _ h) [
  | inl here ↦ (x, here)
  | inr later ↦ found test xs later
]

-- who was initiated was acted on
initiated_actor : (step : Step) (names : List ℕ) (n : ℕ) → lists (initiated_by step ++ names) n ≡ true → ((actor step).0 ≡ n) ⊎ (lists names n ≡ true)
unfolding initiated_by actor lists
initiated_actor (Initiate t parent) names n h = elim (or_cases (eqb t.0 n) _ h) [
  | inl here ↦ inl (eqb-true t.0 n here)
  | inr before ↦ inr before
]
initiated_actor (Begin t) names n h = inr h
initiated_actor (Read t x) names n h = inr h
initiated_actor (Write t x v) names n h = inr h
initiated_actor (Add t x d) names n h = inr h
initiated_actor (Complete t) names n h = inr h
initiated_actor (Permit giver taker obs ops) names n h = inr h
initiated_actor (Delegate giver taker obs) names n h = inr h
initiated_actor (Depend kind a b) names n h = inr h
initiated_actor (Commit t) names n h = inr h
initiated_actor (Abort t) names n h = inr h
initiated_actor (WaitFor t) names n h = inr h
initiated_actor (PermitAny giver obs ops) names n h = inr h

pub initiated_acted : (entries : List Entry) (n : ℕ) → lists (initiated (applied entries)) n ≡ true → lists (acted_on entries) n ≡ true
unfolding applied initiated acted_on acted_on_by lists
initiated_acted [] n h = h
initiated_acted (entry ∷ older) n h = go (takes_effect entry.0 entry.1) (initiated_acted older n) h where
  later : lists (acted_on older) n ≡ true → lists (acted_on (entry ∷ older)) n ≡ true
  later before = or_right (eqb (actor entry.0).0 n) _ (or_right (eqb (partner entry.0).0 n) _ before)

  go : (effect : Bool) → (lists (initiated (applied older)) n ≡ true → lists (acted_on older) n ≡ true)
      → lists (initiated (cond effect (entry.0 ∷ applied older) (applied older))) n ≡ true → lists (acted_on (entry ∷ older)) n ≡ true
  go false known h = later (known h)
  go true known h = elim (initiated_actor entry.0 (initiated (applied older)) n h) [
    | inl here ↦ or_left _ _ (eq-eqb (actor entry.0).0 n here)
    | inr before ↦ later (known before)
  ]

-- in a dead group nobody has committed
pub dead_uncommitted : (entries : List Entry) (t n : ℕ) → dead entries t ≡ true → same_group entries t n ≡ true → was_committed (end_of (applied entries) n) ≡ false
unfolding dead was_committed
dead_uncommitted entries t n gone same = go (end_of (applied entries) n) refl where
  go : (end : Option End) → end_of (applied entries) n ≡ end → was_committed end ≡ false
  go None e = refl
  go (Some End'.Aborted) e = refl
  go (Some End'.Committed) e =
      let known = initiated_acted entries n (ended_initiated (applied entries) n (ap is_some e)) in
      let passes : (same_group entries t n && was_committed (end_of (applied entries) n)) ≡ true = and_from _ _ same (ap was_committed e) in
      absurd (false≢true (sym (not-true _ gone) ∙ listed_any (λ m. same_group entries t m && was_committed (end_of (applied entries) m)) (acted_on entries) n known passes))

pub committed_undead : (entries : List Entry) (t n : ℕ) → dead entries t ≡ true → same_group entries t n ≡ true → end_of (applied entries) n ≢ Some End'.Committed
unfolding was_committed
committed_undead entries t n gone same is = false≢true (sym (dead_uncommitted entries t n gone same) ∙ ap was_committed is)

pub stays_uncommitted : (entries : List Entry) (chosen : List ℕ) → Uncommitted (stays entries chosen) (applied entries)
unfolding stays
stays_uncommitted entries chosen n gone =
    let goes = found (λ c. same_group entries c n && dead entries c) chosen (not-false _ gone) in
    let parts = and_parts (same_group entries goes.0 n) _ goes.1 in
    dead_uncommitted entries goes.0 n parts.1 parts.0

-- the members of a group are dead together
pub dead_alike : (entries : List Entry) (a b : ℕ) → same_group entries a b ≡ true → dead entries a ≡ dead entries b
unfolding dead
dead_alike entries a b same =
    ap not (any_alike (λ n. same_group entries a n && was_committed (end_of (applied entries) n)) (λ n. same_group entries b n && was_committed (end_of (applied entries) n)) (acted_on entries)
    (λ n. ap (λ c. c && was_committed (end_of (applied entries) n)) (both_follow _ _ (group_trans entries b a n (group_sym entries a b same)) (group_trans entries a b n same))))

-- who is of a group that is not dead, or has none of the chosen ones, stays
pub undead_stays : (entries : List Entry) (chosen : List ℕ) (n : ℕ) → dead entries n ≡ false → stays entries chosen n ≡ true
unfolding stays
undead_stays entries chosen n undead = go (list_any (λ c. same_group entries c n && dead entries c) chosen) refl where
  go : (b : Bool) → list_any (λ c. same_group entries c n && dead entries c) chosen ≡ b → not b ≡ true
  go false e = refl
  go true e =
      let goes = found (λ c. same_group entries c n && dead entries c) chosen e in
      let parts = and_parts (same_group entries goes.0 n) _ goes.1 in
      absurd (false≢true (sym undead ∙ sym (dead_alike entries goes.0 n parts.0) ∙ parts.1))

-- ---- what is left

pub without_legal : (opening : Opening) (entries : List Entry) (chosen : List ℕ) → IsLegal opening entries → IsLegal opening (without entries chosen)
unfolding without
without_legal opening entries chosen legal =
    legal_kept opening (stays entries chosen) entries legal (keeps_respects (stays entries chosen) entries (stays_keeps entries chosen)) (stays_uncommitted entries chosen)

-- what holds of all entries holds of the older ones
pub legal_rest : (opening : Opening) (newer older : List Entry) → IsLegal opening (newer ++ older) → IsLegal opening older
unfolding IsLegal
legal_rest opening [] older legal = legal
legal_rest opening (entry ∷ newer) older legal = legal_rest opening newer older legal.1

pub respects_rest : (keep : ℕ → Bool) (newer older : List Entry) → RespectsEntries keep (newer ++ older) → RespectsEntries keep older
unfolding RespectsEntries
respects_rest keep [] older respects = respects
respects_rest keep (entry ∷ newer) older respects = respects_rest keep newer older respects.1

pub uncommitted_rest : (keep : ℕ → Bool) (newer older : List Entry) → Uncommitted keep (applied (newer ++ older)) → Uncommitted keep (applied older)
uncommitted_rest keep [] older uncommitted = uncommitted
uncommitted_rest keep (entry ∷ newer) older uncommitted = uncommitted_rest keep newer older (uncommitted_before keep entry (newer ++ older) uncommitted)

-- an entry that stays is answered alike after those of the older ones that stay
pub stays_answered : (opening : Opening) (newer : List Entry) (entry : Entry) (older : List Entry) (chosen : List ℕ) → IsLegal opening (newer ++ entry ∷ older)
    → stays (newer ++ entry ∷ older) chosen (actor entry.0).0 ≡ true → answer opening (applied (kept (stays (newer ++ entry ∷ older) chosen) older)) entry.0 ≡ Answer entry.1
stays_answered opening newer entry older chosen legal here =
    let all = newer ++ entry ∷ older in
    let keep = stays (newer ++ entry ∷ older) chosen in
    kept_answered opening keep entry older
    (legal_rest opening newer (entry ∷ older) legal)
    (respects_rest keep newer (entry ∷ older) (keeps_respects keep all (stays_keeps all chosen)))
    (uncommitted_rest keep newer (entry ∷ older) (stays_uncommitted all chosen)) here
