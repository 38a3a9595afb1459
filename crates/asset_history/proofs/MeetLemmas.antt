-- Which steps meet, and that the joins of entries are those of partners and of steps that meet.
use Rattle.std.proofs.Common.{◌≡◌, ℕ, Bool, true, false, cond, eqb, ◌&&◌, ◌||◌, List, [], ◌∷◌, filter, refl, sym, ap, ◌∙◌, ◌⊎◌, inl, inr}
use Rattle.std.specs.List.{list_any}
use Rattle.std.proofs.lemmas.Bool.{or_cases, or_left, or_right, and_parts, and_from, eqb-true, eq-eqb, false≢true}
use Rattle.asset_names.specs.declared.names.Ob.{Ob}
use Rattle.asset_names.specs.declared.steps.Step.{Step}
use Rattle.asset_names.specs.declared.steps.Step.TheVariants.{Initiate, Begin, Read, Write, Add, Complete, Permit, PermitAny, Delegate, Depend, Commit, Abort, WaitFor}
use Rattle.asset_names.specs.Arrows.{Arrow, lists, has_arrow}
use Rattle.asset_names.specs.Steps.{Entry, takes_effect, applied}
use Rattle.asset_names.specs.Groups.{actor, partner, operates_on, opens_for, met, joined_by, joins, acted_on_by, acted_on}
use Rattle.asset_names.proofs.ListLemmas.{any_map, any_filter, any_alike, all_and}
use Rattle.asset_names.proofs.DependLemmas.{has_append}
use Rattle.asset_history.specs.Uses.{opened_obs, has_object, opens_on, opens, operates, partners}

-- ---- who opens an object, and who operates on it

-- one of the two opens an object, and the other operates on it
abbrev pub Meet : List Step → ℕ → ℕ → Type 0
Meet steps u v = (x : ℕ) × (((opens steps u x ≡ true) × (operates steps v x ≡ true)) ⊎ ((operates steps u x ≡ true) × (opens steps v x ≡ true)))

for_is : (other step : Step) → opens_for other step ≡ list_any (λ (y : Ob). operates_on step y.0) (opened_obs other)
unfolding opens_for opened_obs
for_is (PermitAny giver obs ops) step = refl
for_is (Initiate t parent) step = refl
for_is (Begin t) step = refl
for_is (Read t y) step = refl
for_is (Write t y v) step = refl
for_is (Add t y d) step = refl
for_is (Complete t) step = refl
for_is (Permit giver taker obs ops) step = refl
for_is (Delegate giver taker obs) step = refl
for_is (Depend kind a b) step = refl
for_is (Commit t) step = refl
for_is (Abort t) step = refl
for_is (WaitFor t) step = refl

-- an object that is listed and operated on, and back
listed_on : (step : Step) (obs : List Ob) (x : ℕ) → list_any (λ (y : Ob). eqb y.0 x) obs ≡ true → operates_on step x ≡ true → list_any (λ (y : Ob). operates_on step y.0) obs ≡ true
listed_on step [] x h on = absurd (false≢true h)
listed_on step (y ∷ obs) x h on = elim (or_cases (eqb y.0 x) _ h) [
  | inl here ↦ or_left _ _ (ap (operates_on step) (eqb-true y.0 x here) ∙ on)
  | inr later ↦ or_right (operates_on step y.0) _ (listed_on step obs x later on)
]

on_listed : (step : Step) (obs : List Ob) → list_any (λ (y : Ob). operates_on step y.0) obs ≡ true → (x : ℕ) × (list_any (λ (y : Ob). eqb y.0 x) obs ≡ true) × (operates_on step x ≡ true)
on_listed step [] h = absurd (false≢true h)
on_listed step (y ∷ obs) h = elim (or_cases (operates_on step y.0) _ h) [
  | inl here ↦ (y.0, or_left _ _ (eq-eqb y.0 y.0 refl), here)
  | inr later ↦ let found = on_listed step obs later in (found.0, or_right (eqb y.0 found.0) _ found.1, found.2)
]

for_from : (other step : Step) (x : ℕ) → opens_on other x ≡ true → operates_on step x ≡ true → opens_for other step ≡ true
unfolding opens_on has_object
for_from other step x h on = for_is other step ∙ listed_on step (opened_obs other) x h on

from_for : (other step : Step) → opens_for other step ≡ true → (x : ℕ) × (opens_on other x ≡ true) × (operates_on step x ≡ true)
unfolding opens_on has_object
from_for other step h = on_listed step (opened_obs other) (sym (for_is other step) ∙ h)

-- no step does both
not_both : (step : Step) (x : ℕ) → opens_on step x ≡ true → operates_on step x ≡ true → ⊥
unfolding opens_on has_object opened_obs operates_on
not_both (PermitAny giver obs ops) x h on = false≢true on
not_both (Initiate t parent) x h on = false≢true h
not_both (Begin t) x h on = false≢true h
not_both (Read t y) x h on = false≢true h
not_both (Write t y v) x h on = false≢true h
not_both (Add t y d) x h on = false≢true h
not_both (Complete t) x h on = false≢true h
not_both (Permit giver taker obs ops) x h on = false≢true h
not_both (Delegate giver taker obs) x h on = false≢true h
not_both (Depend kind a b) x h on = false≢true h
not_both (Commit t) x h on = false≢true h
not_both (Abort t) x h on = false≢true h
not_both (WaitFor t) x h on = false≢true h

-- ---- the joins of one step

-- whether a step meets one of v's steps
meets : Step → List Step → ℕ → Bool
meets step steps v = list_any (λ (other : Step). (opens_for step other || opens_for other step) && eqb (actor other).0 v) steps

met_has : (step : Step) (steps : List Step) (u v : ℕ) → has_arrow (met step steps) u v ≡ (eqb (actor step).0 u && meets step steps v)
unfolding has_arrow met meets
met_has step steps u v =
    let test = λ (other : Step). opens_for step other || opens_for other step in
    any_map (λ (arrow : Arrow). eqb arrow.0 u && eqb arrow.1 v) (λ (other : Step). ((actor step).0, (actor other).0)) (filter test steps)
    ∙ any_filter (λ (other : Step). eqb (actor step).0 u && eqb (actor other).0 v) test steps
    ∙ any_alike (λ (other : Step). test other && (eqb (actor step).0 u && eqb (actor other).0 v)) (λ (other : Step). eqb (actor step).0 u && (test other && eqb (actor other).0 v)) steps
    (λ other. swapped (test other) (eqb (actor step).0 u) (eqb (actor other).0 v))
    ∙ all_and (eqb (actor step).0 u) (λ (other : Step). test other && eqb (actor other).0 v) steps where
      swapped : (a b c : Bool) → (a && (b && c)) ≡ (b && (a && c))
      swapped true b c = refl
      swapped false true c = refl
      swapped false false c = refl

-- an opener meets each who operates, and an operator each who opens
meets_operator : (step : Step) (steps : List Step) (x v : ℕ) → opens_on step x ≡ true → operates steps v x ≡ true → meets step steps v ≡ true
unfolding operates meets
meets_operator step [] x v on h = absurd (false≢true h)
meets_operator step (other ∷ steps) x v on h = elim (or_cases (operates_on other x && eqb (actor other).0 v) _ h) [
  | inl here ↦
      let parts = and_parts (operates_on other x) _ here in
      or_left _ _ (and_from _ _ (or_left _ _ (for_from step other x on parts.0)) parts.1)
  | inr later ↦ or_right ((opens_for step other || opens_for other step) && eqb (actor other).0 v) _ (meets_operator step steps x v on later)
]

meets_opener : (step : Step) (steps : List Step) (x v : ℕ) → operates_on step x ≡ true → opens steps v x ≡ true → meets step steps v ≡ true
unfolding opens meets
meets_opener step [] x v on h = absurd (false≢true h)
meets_opener step (other ∷ steps) x v on h = elim (or_cases (opens_on other x && eqb (actor other).0 v) _ h) [
  | inl here ↦
      let parts = and_parts (opens_on other x) _ here in
      or_left _ _ (and_from _ _ (or_right (opens_for step other) _ (for_from other step x parts.0 on)) parts.1)
  | inr later ↦ or_right ((opens_for step other || opens_for other step) && eqb (actor other).0 v) _ (meets_opener step steps x v on later)
]

-- and whoever it meets is one of these
meets_one : (step : Step) (steps : List Step) (v : ℕ) → meets step steps v ≡ true
    → (x : ℕ) × (((opens_on step x ≡ true) × (operates steps v x ≡ true)) ⊎ ((operates_on step x ≡ true) × (opens steps v x ≡ true)))
unfolding opens operates meets
meets_one step [] v h = absurd (false≢true h)
meets_one step (other ∷ steps) v h = elim (or_cases ((opens_for step other || opens_for other step) && eqb (actor other).0 v) _ h) [
  | inl here ↦ let parts = and_parts (opens_for step other || opens_for other step) _ here in elim (or_cases (opens_for step other) _ parts.0) [
    | inl opening ↦ let at = from_for step other opening in (at.0, inl (at.1, or_left _ _ (and_from _ _ at.2 parts.1)))
    | inr opening ↦ let at = from_for other step opening in (at.0, inr (at.2, or_left _ _ (and_from _ _ at.1 parts.1)))
  ]
  | inr later ↦ let found = meets_one step steps v later in (
    found.0,
    elim found.1 [
      | inl one ↦ inl (one.0, or_right (operates_on other found.0 && eqb (actor other).0 v) _ one.1)
      | inr one ↦ inr (one.0, or_right (opens_on other found.0 && eqb (actor other).0 v) _ one.1)
    ],
  )
]

-- ---- the joins of entries

later_join : (entry : Entry) (older : List Entry) (u v : ℕ) → has_arrow (joins older) u v ≡ true → has_arrow (joins (entry ∷ older)) u v ≡ true
unfolding joins joined_by
later_join entry older u v h = has_append (joined_by entry older) (joins older) u v ∙ or_right (has_arrow (joined_by entry older) u v) _ h

met_join : (entry : Entry) (older : List Entry) (v : ℕ) → takes_effect entry.0 entry.1 ≡ true → meets entry.0 (applied older) v ≡ true → has_arrow (joins (entry ∷ older)) (actor entry.0).0 v ≡ true
unfolding joins joined_by has_arrow
met_join entry older v effect h =
    let met_one : has_arrow (met entry.0 (applied older)) (actor entry.0).0 v ≡ true = met_has entry.0 (applied older) (actor entry.0).0 v ∙ and_from _ _ (eq-eqb (actor entry.0).0 (actor entry.0).0 refl) h in
    has_append (joined_by entry older) (joins older) (actor entry.0).0 v ∙ or_left _ _ (or_right (eqb (actor entry.0).0 (actor entry.0).0 && eqb (partner entry.0).0 v) _ (rw (effect) met_one))

-- partners are joined
pub partner_joined : (entries : List Entry) (u v : ℕ) → has_arrow (partners entries) u v ≡ true → has_arrow (joins entries) u v ≡ true
unfolding partners has_arrow joins joined_by
partner_joined [] u v h = h
partner_joined (entry ∷ older) u v h = elim (or_cases (eqb (actor entry.0).0 u && eqb (partner entry.0).0 v) _ h) [
  | inl here ↦ or_left _ _ here
  | inr later ↦ later_join entry older u v (partner_joined older u v later)
]

-- an opener and an operator are joined, one way or the other
pub meeting_joined : (entries : List Entry) (a t x : ℕ) → opens (applied entries) a x ≡ true → operates (applied entries) t x ≡ true
    → (has_arrow (joins entries) a t ≡ true) ⊎ (has_arrow (joins entries) t a ≡ true)
unfolding applied opens operates
meeting_joined [] a t x opening operation = absurd (false≢true opening)
meeting_joined (entry ∷ older) a t x opening operation = go (λ one other. meeting_joined older a t x one other) (takes_effect entry.0 entry.1) refl opening operation where
  step : Step
  step = entry.0

  later : (has_arrow (joins older) a t ≡ true) ⊎ (has_arrow (joins older) t a ≡ true) → (has_arrow (joins (entry ∷ older)) a t ≡ true) ⊎ (has_arrow (joins (entry ∷ older)) t a ≡ true)
  later (inl there) = inl (later_join entry older a t there)
  later (inr there) = inr (later_join entry older t a there)

  named : (n v : ℕ) → eqb (actor step).0 n ≡ true → has_arrow (joins (entry ∷ older)) (actor step).0 v ≡ true → has_arrow (joins (entry ∷ older)) n v ≡ true
  named n v is h = ap (λ (m : ℕ). has_arrow (joins (entry ∷ older)) m v) (sym (eqb-true (actor step).0 n is)) ∙ h

  go : (opens (applied older) a x ≡ true → operates (applied older) t x ≡ true → (has_arrow (joins older) a t ≡ true) ⊎ (has_arrow (joins older) t a ≡ true))
      → (effect : Bool) → takes_effect entry.0 entry.1 ≡ effect → opens (cond effect (entry.0 ∷ applied older) (applied older)) a x ≡ true
      → operates (cond effect (entry.0 ∷ applied older) (applied older)) t x ≡ true → (has_arrow (joins (entry ∷ older)) a t ≡ true) ⊎ (has_arrow (joins (entry ∷ older)) t a ≡ true)
  go before false effect one other = later (before one other)
  go before true effect one other = elim (or_cases (opens_on step x && eqb (actor step).0 a) _ one) [
    | inl opens_here ↦ let first = and_parts (opens_on step x) _ opens_here in elim (or_cases (operates_on step x && eqb (actor step).0 t) _ other) [
      | inl operates_here ↦ absurd (not_both step x first.0 (and_parts (operates_on step x) _ operates_here).0)
      | inr operates_before ↦ inl (named a t first.1 (met_join entry older t effect (meets_operator step (applied older) x t first.0 operates_before)))
    ]
    | inr opens_before ↦ elim (or_cases (operates_on step x && eqb (actor step).0 t) _ other) [
      | inl operates_here ↦ let second = and_parts (operates_on step x) _ operates_here in inr (named t a second.1 (met_join entry older a effect (meets_opener step (applied older) x a second.0 opens_before)))
      | inr operates_before ↦ later (before opens_before operates_before)
    ]
  ]

-- who meets over older steps meets over all
meet_more : (entry : Entry) (older : List Entry) (u v : ℕ) → Meet (applied older) u v → Meet (applied (entry ∷ older)) u v
unfolding applied opens operates
meet_more entry older u v found = (found.0, go (takes_effect entry.0 entry.1) found.1) where
  x : ℕ
  x = found.0

  go : (effect : Bool) → ((opens (applied older) u x ≡ true) × (operates (applied older) v x ≡ true)) ⊎ ((operates (applied older) u x ≡ true) × (opens (applied older) v x ≡ true))
      → ((opens (cond effect (entry.0 ∷ applied older) (applied older)) u x ≡ true) × (operates (cond effect (entry.0 ∷ applied older) (applied older)) v x ≡ true))
      ⊎ ((operates (cond effect (entry.0 ∷ applied older) (applied older)) u x ≡ true) × (opens (cond effect (entry.0 ∷ applied older) (applied older)) v x ≡ true))
  go false one = one
  go true (inl one) = inl (or_right (opens_on entry.0 x && eqb (actor entry.0).0 u) _ one.0, or_right (operates_on entry.0 x && eqb (actor entry.0).0 v) _ one.1)
  go true (inr one) = inr (or_right (operates_on entry.0 x && eqb (actor entry.0).0 u) _ one.0, or_right (opens_on entry.0 x && eqb (actor entry.0).0 v) _ one.1)

-- each join is of partners, or of two who meet
pub join_met : (entries : List Entry) (u v : ℕ) → has_arrow (joins entries) u v ≡ true → (has_arrow (partners entries) u v ≡ true) ⊎ Meet (applied entries) u v
unfolding joins joined_by partners has_arrow applied opens operates
join_met [] u v h = inl h
join_met (entry ∷ older) u v h = elim (or_cases (has_arrow (joined_by entry older) u v) _ (sym (has_append (joined_by entry older) (joins older) u v) ∙ h)) [
  | inl own ↦ elim (or_cases (eqb (actor entry.0).0 u && eqb (partner entry.0).0 v) _ own) [
    | inl pair ↦ inl (or_left _ _ pair)
    | inr new ↦ inr (go (takes_effect entry.0 entry.1) refl new)
  ]
  | inr before ↦ elim (join_met older u v before) [
    | inl pair ↦ inl (or_right (eqb (actor entry.0).0 u && eqb (partner entry.0).0 v) _ pair)
    | inr meeting ↦ inr (meet_more entry older u v meeting)
  ]
] where
  here : takes_effect entry.0 entry.1 ≡ true → applied (entry ∷ older) ≡ entry.0 ∷ applied older
  here effect = rw (effect) refl

  go : (effect : Bool) → takes_effect entry.0 entry.1 ≡ effect → has_arrow (cond effect (met entry.0 (applied older)) []) u v ≡ true → Meet (applied (entry ∷ older)) u v
  go false is arrow = absurd (false≢true arrow)
  go true is arrow =
      let parts = and_parts (eqb (actor entry.0).0 u) _ (sym (met_has entry.0 (applied older) u v) ∙ arrow) in
      let found = meets_one entry.0 (applied older) v parts.1 in
      rw (here is) (
        found.0,
        elim found.1 [
          | inl one ↦ inl (or_left _ _ (and_from _ _ one.0 parts.0), or_right (operates_on entry.0 found.0 && eqb (actor entry.0).0 v) _ one.1)
          | inr one ↦ inr (or_left _ _ (and_from _ _ one.0 parts.0), or_right (opens_on entry.0 found.0 && eqb (actor entry.0).0 v) _ one.1)
        ],
      )

-- ---- whoever took such a step was acted on
acts : (step : Step → Bool) (entries : List Entry) (n : ℕ) → list_any (λ (s : Step). step s && eqb (actor s).0 n) (applied entries) ≡ true → lists (acted_on entries) n ≡ true
unfolding applied acted_on acted_on_by lists
acts step [] n h = h
acts step (entry ∷ older) n h = go (λ before. acts step older n before) (takes_effect entry.0 entry.1) h where
  later : lists (acted_on older) n ≡ true → lists (acted_on (entry ∷ older)) n ≡ true
  later there = or_right (eqb (actor entry.0).0 n) _ (or_right (eqb (partner entry.0).0 n) _ there)

  go : (list_any (λ (s : Step). step s && eqb (actor s).0 n) (applied older) ≡ true → lists (acted_on older) n ≡ true) → (effect : Bool) → list_any (λ (s : Step). step s && eqb (actor s).0 n) (cond effect (entry.0 ∷ applied older) (applied older)) ≡ true → lists (acted_on (entry ∷ older)) n ≡ true
  go known false before = later (known before)
  go known true some = elim (or_cases (step entry.0 && eqb (actor entry.0).0 n) _ some) [
    | inl here ↦ or_left _ _ (and_parts (step entry.0) _ here).1
    | inr before ↦ later (known before)
  ]

pub opener_acts : (entries : List Entry) (a x : ℕ) → opens (applied entries) a x ≡ true → lists (acted_on entries) a ≡ true
unfolding opens
opener_acts entries a x h = acts (λ (s : Step). opens_on s x) entries a h

pub operator_acts : (entries : List Entry) (t x : ℕ) → operates (applied entries) t x ≡ true → lists (acted_on entries) t ≡ true
unfolding operates
operator_acts entries t x h = acts (λ (s : Step). operates_on s x) entries t h

-- so is whoever is joined
partners_act : (entries : List Entry) (u v : ℕ) → has_arrow (partners entries) u v ≡ true → (lists (acted_on entries) u ≡ true) × (lists (acted_on entries) v ≡ true)
unfolding partners has_arrow acted_on acted_on_by lists
partners_act [] u v h = absurd (false≢true h)
partners_act (entry ∷ older) u v h = elim (or_cases (eqb (actor entry.0).0 u && eqb (partner entry.0).0 v) _ h) [
  | inl here ↦
      let parts = and_parts (eqb (actor entry.0).0 u) _ here in
      (or_left _ _ parts.0, or_right (eqb (actor entry.0).0 v) _ (or_left _ _ parts.1))
  | inr later ↦
      let before = partners_act older u v later in (
        or_right (eqb (actor entry.0).0 u) _ (or_right (eqb (partner entry.0).0 u) _ before.0),
        or_right (eqb (actor entry.0).0 v) _ (or_right (eqb (partner entry.0).0 v) _ before.1),
      )
]

pub meet_acts : (entries : List Entry) (u v : ℕ) → Meet (applied entries) u v → (lists (acted_on entries) u ≡ true) × (lists (acted_on entries) v ≡ true)
meet_acts entries u v (x, inl one) = (opener_acts entries u x one.0, operator_acts entries v x one.1)
meet_acts entries u v (x, inr one) = (operator_acts entries u x one.0, opener_acts entries v x one.1)

pub join_acts : (entries : List Entry) (u v : ℕ) → has_arrow (joins entries) u v ≡ true → (lists (acted_on entries) u ≡ true) × (lists (acted_on entries) v ≡ true)
join_acts entries u v h = elim (join_met entries u v h) [ inl pair ↦ partners_act entries u v pair | inr meeting ↦ meet_acts entries u v meeting ]
