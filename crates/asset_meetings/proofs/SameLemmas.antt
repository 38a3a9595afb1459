-- The few joins make the same groups as all, and join the same with others.
use Rattle.std.proofs.Common.{◌≡◌, ℕ, Bool, true, false, not, eqb, ◌&&◌, ◌||◌, List, [], ◌∷◌, ◌++◌, refl, sym, ap, ◌∙◌, ◌⊎◌, inl, inr}
use Rattle.std.specs.List.{list_all}
use Rattle.std.proofs.lemmas.Bool.{or_cases, or_left, or_right, and_parts, and_from, eqb-true, eq-eqb, false≢true}
use Rattle.asset_names.specs.Arrows.{Arrow, has_arrow, linked}
use Rattle.asset_names.specs.Paths.{both_ways}
use Rattle.asset_names.specs.Steps.{Entry, applied}
use Rattle.asset_names.specs.Groups.{joins, same_group}
use Rattle.asset_names.proofs.Common.{both_follow}
use Rattle.asset_names.proofs.Arrows.{linked_trans}
use Rattle.asset_names.proofs.DependLemmas.{has_append}
use Rattle.asset_laws.specs.Serial.{is_apart}
use Rattle.asset_meetings.specs.Users.{meetings_of}
use Rattle.asset_history.specs.Uses.{partners}
use Rattle.asset_meetings.specs.Meetings.{join_arrows, AreMeetings}
use Rattle.asset_history.proofs.LinkLemmas.{joins_one, joins_back, linked_by}
use Rattle.asset_history.proofs.MeetLemmas.{Meet, partner_joined, meeting_joined, join_met, meet_acts}
use Rattle.asset_meetings.proofs.FewLemmas.{few_met, few_through}

-- ---- groups

few : List Entry → List Arrow
few entries = join_arrows (meetings_of entries) ++ partners entries

in_few : (entries : List Entry) (u v : ℕ) → has_arrow (join_arrows (meetings_of entries)) u v ≡ true → has_arrow (few entries) u v ≡ true
unfolding few
in_few entries u v h = has_append (join_arrows (meetings_of entries)) (partners entries) u v ∙ or_left _ _ h

in_partners : (entries : List Entry) (u v : ℕ) → has_arrow (partners entries) u v ≡ true → has_arrow (few entries) u v ≡ true
unfolding few
in_partners entries u v h = has_append (join_arrows (meetings_of entries)) (partners entries) u v ∙ or_right (has_arrow (join_arrows (meetings_of entries)) u v) _ h

from_few : (entries : List Entry) (u v : ℕ) → has_arrow (few entries) u v ≡ true → (Meet (applied entries) u v) ⊎ (has_arrow (partners entries) u v ≡ true)
unfolding few
from_few entries u v h = elim (or_cases (has_arrow (join_arrows (meetings_of entries)) u v) _ (sym (has_append (join_arrows (meetings_of entries)) (partners entries) u v) ∙ h)) [
  | inl one ↦ inl (few_met entries u v one)
  | inr one ↦ inr one
]

-- two who meet are joined, one way or the other
met_joined : (entries : List Entry) (u v : ℕ) → Meet (applied entries) u v → (has_arrow (joins entries) u v ≡ true) ⊎ (has_arrow (joins entries) v u ≡ true)
met_joined entries u v (x, inl one) = meeting_joined entries u v x one.0 one.1
met_joined entries u v (x, inr one) = elim (meeting_joined entries v u x one.1 one.0) [
  | inl there ↦ inr there
  | inr there ↦ inl there
]

-- and by the few joins
through : (entries : List Entry) (a t x : ℕ) → (g s : ℕ) × (has_arrow (join_arrows (meetings_of entries)) a s ≡ true) × (has_arrow (join_arrows (meetings_of entries)) g s ≡ true) × (has_arrow (join_arrows (meetings_of entries)) t g ≡ true)
    → (linked (both_ways (few entries)) a t ≡ true) × (linked (both_ways (few entries)) t a ≡ true)
through entries a t x (g, s, first, between, second) =
    let arrows = both_ways (few entries) in
    let to = in_few entries a s first in
    let over = in_few entries g s between in
    let on = in_few entries t g second in (
      linked_trans arrows a s t (joins_one (few entries) a s to) (linked_trans arrows s g t (joins_back (few entries) s g over) (joins_back (few entries) g t on)),
      linked_trans arrows t g a (joins_one (few entries) t g on) (linked_trans arrows g s a (joins_one (few entries) g s over) (joins_back (few entries) s a to)),
    )

few_linked : (entries : List Entry) (u v : ℕ) → Meet (applied entries) u v → (linked (both_ways (few entries)) u v ≡ true) × (linked (both_ways (few entries)) v u ≡ true)
few_linked entries u v (x, inl one) = through entries u v x (few_through entries u v x one.0 one.1)
few_linked entries u v (x, inr one) = let both = through entries v u x (few_through entries v u x one.1 one.0) in (both.1, both.0)

both_joined : (arrows : List Arrow) (u v : ℕ) → (has_arrow arrows u v ≡ true) ⊎ (has_arrow arrows v u ≡ true) → (linked (both_ways arrows) u v ≡ true) × (linked (both_ways arrows) v u ≡ true)
both_joined arrows u v (inl h) = (joins_one arrows u v h, joins_back arrows v u h)
both_joined arrows u v (inr h) = (joins_back arrows u v h, joins_one arrows v u h)

same_linked : (entries : List Entry) (u v : ℕ) → linked (both_ways (few entries)) u v ≡ same_group entries u v
unfolding same_group
same_linked entries u v = both_follow _ _ (linked_by (few entries) (joins entries) there u v) (linked_by (joins entries) (few entries) back u v) where
  there : (m n : ℕ) → has_arrow (few entries) m n ≡ true → (linked (both_ways (joins entries)) m n ≡ true) × (linked (both_ways (joins entries)) n m ≡ true)
  there m n h = elim (from_few entries m n h) [
    | inl meeting ↦ both_joined (joins entries) m n (met_joined entries m n meeting)
    | inr pair ↦ both_joined (joins entries) m n (inl (partner_joined entries m n pair))
  ]

  back : (m n : ℕ) → has_arrow (joins entries) m n ≡ true → (linked (both_ways (few entries)) m n ≡ true) × (linked (both_ways (few entries)) n m ≡ true)
  back m n h = elim (join_met entries m n h) [
    | inl pair ↦ both_joined (few entries) m n (inl (in_partners entries m n pair))
    | inr meeting ↦ few_linked entries m n meeting
  ]

-- ---- who is joined with another

-- a test of each arrow
all_says : (test : Arrow → Bool) (arrows : List Arrow) → list_all test arrows ≡ true → (u v : ℕ) → has_arrow arrows u v ≡ true → test (u, v) ≡ true
unfolding has_arrow
all_says test [] all u v h = absurd (false≢true h)
all_says test (arrow ∷ arrows) all u v h = let parts = and_parts (test arrow) _ all in elim (or_cases (eqb arrow.0 u && eqb arrow.1 v) _ h) [
  | inl here ↦ let ends = and_parts (eqb arrow.0 u) _ here in ap test (sym (λ i. (eqb-true arrow.0 u ends.0 i, eqb-true arrow.1 v ends.1 i))) ∙ parts.0
  | inr later ↦ all_says test arrows parts.1 u v later
]

all_from : (test : Arrow → Bool) (arrows : List Arrow) → ((u v : ℕ) → has_arrow arrows u v ≡ true → test (u, v) ≡ true) → list_all test arrows ≡ true
unfolding has_arrow
all_from test [] each = refl
all_from test (arrow ∷ arrows) each =
    and_from _ _ (each arrow.0 arrow.1 (or_left _ _ (and_from _ _ (eq-eqb arrow.0 arrow.0 refl) (eq-eqb arrow.1 arrow.1 refl))))
    (all_from test arrows (λ u v h. each u v (or_right (eqb arrow.0 u && eqb arrow.1 v) _ h)))

apart_says : (test : ℕ → Bool) (u v : ℕ) → is_apart test (u, v) ≡ true → (test u || test v) ≡ true → u ≡ v
unfolding is_apart
apart_says test u v apart some = elim (or_cases (eqb u v) _ apart) [
  | inl same ↦ eqb-true u v same
  | inr none ↦ absurd (false≢true (ap not (sym some) ∙ none))
]

apart_from : (test : ℕ → Bool) (u v : ℕ) → ((test u || test v) ≡ true → u ≡ v) → is_apart test (u, v) ≡ true
unfolding is_apart
apart_from test u v same = go (test u || test v) refl where
  go : (some : Bool) → (test u || test v) ≡ some → (eqb u v || not some) ≡ true
  go true is = or_left _ _ (eq-eqb u v (same is))
  go false is = or_right (eqb u v) _ refl

apart_back : (test : ℕ → Bool) (u v : ℕ) → is_apart test (u, v) ≡ true → is_apart test (v, u) ≡ true
apart_back test u v apart = apart_from test v u (λ some. sym (apart_says test u v apart (turned (test v) (test u) some))) where
  turned : (a b : Bool) → (a || b) ≡ true → (b || a) ≡ true
  turned true true h = refl
  turned true false h = refl
  turned false true h = refl
  turned false false h = h

-- if the joins through the first of each are apart, so are an opener and an operator
apart_through : (test : ℕ → Bool) (a t g s : ℕ) → is_apart test (a, s) ≡ true → is_apart test (g, s) ≡ true → is_apart test (t, g) ≡ true → is_apart test (a, t) ≡ true
apart_through test a t g s first between second = apart_from test a t (λ some. elim (or_cases (test a) _ some) [
  | inl by_a ↦
      let a_s = apart_says test a s first (or_left _ _ by_a) in
      let by_s : test s ≡ true = ap test (sym a_s) ∙ by_a in
      let g_s = apart_says test g s between (or_right (test g) _ by_s) in
      let by_g : test g ≡ true = ap test g_s ∙ by_s in
      a_s ∙ sym g_s ∙ sym (apart_says test t g second (or_right (test t) _ by_g))
  | inr by_t ↦
      let t_g = apart_says test t g second (or_left _ _ by_t) in
      let by_g : test g ≡ true = ap test (sym t_g) ∙ by_t in
      let g_s = apart_says test g s between (or_left _ _ by_g) in
      let by_s : test s ≡ true = ap test (sym g_s) ∙ by_g in
      apart_says test a s first (or_right (test a) _ by_s) ∙ sym g_s ∙ sym t_g
])

same_apart : (entries : List Entry) (test : ℕ → Bool) → list_all (is_apart test) (few entries) ≡ list_all (is_apart test) (joins entries)
same_apart entries test = both_follow _ _ there back where
  met_apart : list_all (is_apart test) (few entries) ≡ true → (u v : ℕ) → Meet (applied entries) u v → is_apart test (u, v) ≡ true
  met_apart all u v (x, inl one) =
      let found = few_through entries u v x one.0 one.1 in
      let says = all_says (is_apart test) (few entries) all in
      apart_through test u v found.0 found.1 (says u found.1 (in_few entries u found.1 found.2)) (says found.0 found.1 (in_few entries found.0 found.1 found.3)) (says v found.0 (in_few entries v found.0 found.4))
  met_apart all u v (x, inr one) =
      let found = few_through entries v u x one.1 one.0 in
      let says = all_says (is_apart test) (few entries) all in
      apart_back test v u
      (apart_through test v u found.0 found.1 (says v found.1 (in_few entries v found.1 found.2)) (says found.0 found.1 (in_few entries found.0 found.1 found.3)) (says u found.0 (in_few entries u found.0 found.4)))

  there : list_all (is_apart test) (few entries) ≡ true → list_all (is_apart test) (joins entries) ≡ true
  there all = all_from (is_apart test) (joins entries) (λ u v h. elim (join_met entries u v h) [
    | inl pair ↦ all_says (is_apart test) (few entries) all u v (in_partners entries u v pair)
    | inr meeting ↦ met_apart all u v meeting
  ])

  back : list_all (is_apart test) (joins entries) ≡ true → list_all (is_apart test) (few entries) ≡ true
  back all = all_from (is_apart test) (few entries) (λ u v h. elim (from_few entries u v h) [
    | inl meeting ↦ elim (met_joined entries u v meeting) [
      | inl one ↦ all_says (is_apart test) (joins entries) all u v one
      | inr one ↦ apart_back test v u (all_says (is_apart test) (joins entries) all v u one)
    ]
    | inr pair ↦ all_says (is_apart test) (joins entries) all u v (partner_joined entries u v pair)
  ])

-- ---- all of it

pub are_meetings : (entries : List Entry) → AreMeetings entries (meetings_of entries)
unfolding few
are_meetings entries = record {
  named = λ u v h. meet_acts entries u v (few_met entries u v h);
  groups = same_linked entries;
  apart = same_apart entries;
}
