-- No cycle stands among the classes of live transactions.
use Rattle.std.proofs.Common.{◌≡◌, ℕ, Bool, true, false, cond, eqb, not, ◌&&◌, ◌||◌, List, [], ◌∷◌, ◌++◌, refl, sym, ◌∙◌, ap, ◌⊎◌, inl, inr}
use Rattle.std.specs.Prelude.{Option, Some, None, is_none}
use Rattle.std.specs.Option.{option_or}
use Rattle.std.proofs.lemmas.Bool.{or_cases, or_left, or_right, or_parts, and_parts, and_from, eqb-true, eq-eqb, false≢true}
use Rattle.asset_names.specs.declared.names.Txn.{Txn}
use Rattle.asset_names.specs.declared.statuses.End.{End}
use Rattle.asset_names.specs.declared.replies.Reply.{Reply}
use Rattle.asset_names.specs.declared.replies.Outcome.TheVariants.{Answer}
use Rattle.asset_names.specs.declared.steps.Kind.{Kind}
use Rattle.asset_names.specs.declared.steps.Kind.TheVariants.{Cd, Ad, Gc}
use Rattle.asset_names.specs.declared.steps.Step.{Step}
use Rattle.asset_names.specs.declared.steps.Step.TheVariants.{Initiate, Begin, Read, Write, Add, Complete, Permit, PermitAny, Delegate, Depend, Commit, Abort, WaitFor}
use Rattle.asset_names.specs.Arrows.{Arrow, lists, linked, has_arrow, among}
use Rattle.asset_names.specs.Paths.{same_kind, both_ways, leads, closes_cycle}
use Rattle.asset_names.specs.Steps.{Opening, Entry, takes_effect, applied, initiated}
use Rattle.asset_names.specs.Endings.{dependency_by, dependencies, class_arrows, order_arrows, would_cycle, end_of, live}
use Rattle.asset_names.specs.Answers.{answer, IsLegal}
use Rattle.asset_names.specs.Orderly.{IsOrderly}
use Rattle.asset_names.proofs.Arrows.{linked_ways}
use Rattle.asset_names.proofs.PermitLemmas.{linked_more, has_among}
use Rattle.asset_names.proofs.DependLemmas.{has_append, has_both, depend_arrow}
use Rattle.asset_names.proofs.LegalLemmas.{depend_live, legal_orderly}
use Rattle.asset_laws.specs.Textbook.{IsAcyclic}
use Rattle.asset_laws.proofs.PathLemmas.{both_back, class_leads, order_leads, leads_trans, path_leads}

-- from where an arrow of order leads, nothing leads back
Acyclic : List Arrow → List Arrow → Type 0
Acyclic classes orders = (c d : ℕ) → has_arrow orders c d ≡ true → leads classes orders d c ≡ false

-- a truth that is refuted is false
refuted : (b : Bool) → (b ≡ true → false ≡ true) → b ≡ false
refuted false h = refl
refuted true h = sym (h refl)

-- fewer arrows close no cycle
fewer : (classes orders others more : List Arrow) → ((u v : ℕ) → has_arrow others u v ≡ true → has_arrow classes u v ≡ true) → ((u v : ℕ) → has_arrow more u v ≡ true → has_arrow orders u v ≡ true)
    → Acyclic classes orders → Acyclic others more
unfolding Acyclic leads
fewer classes orders others more in_classes in_orders acyclic c d arrow = refuted _ (λ back. sym (acyclic c d (in_orders c d arrow)) ∙ linked_more (others ++ more) (classes ++ orders) both d c back) where
  both : (u v : ℕ) → has_arrow (others ++ more) u v ≡ true → has_arrow (classes ++ orders) u v ≡ true
  both u v h = has_append classes orders u v ∙ elim (or_cases (has_arrow others u v) _ (sym (has_append others more u v) ∙ h)) [
    | inl one ↦ or_left _ _ (in_classes u v one)
    | inr other ↦ or_right (has_arrow classes u v) _ (in_orders u v other)
  ]

-- the first arrow of a list, or a later one
first_or_later : (a b : ℕ) (arrows : List Arrow) (u v : ℕ) → has_arrow ((a, b) ∷ arrows) u v ≡ true → ((a ≡ u) × (b ≡ v)) ⊎ (has_arrow arrows u v ≡ true)
unfolding has_arrow
first_or_later a b arrows u v h = elim (or_cases (eqb a u && eqb b v) _ h) [
  | inl here ↦ let ends = and_parts (eqb a u) (eqb b v) here in inl (eqb-true a u ends.0, eqb-true b v ends.1)
  | inr later ↦ inr later
]

-- what leads with one more arrow of order, put first
order_first : (classes orders : List Arrow) (a b d c : ℕ) → leads classes ((a, b) ∷ orders) d c ≡ true
    → (leads classes orders d c ≡ true) ⊎ ((leads classes orders d a ≡ true) × (leads classes orders b c ≡ true))
unfolding leads has_arrow
order_first classes orders a b d c h = linked_ways (a, b) (classes ++ orders) d c (linked_more (classes ++ (a, b) ∷ orders) ((a, b) ∷ (classes ++ orders)) moved d c h) where
  swapped : (p q r : Bool) → (p || (q || r)) ≡ (q || (p || r))
  swapped true true r = refl
  swapped true false r = refl
  swapped false q r = refl

  moved : (u v : ℕ) → has_arrow (classes ++ (a, b) ∷ orders) u v ≡ true → has_arrow ((a, b) ∷ (classes ++ orders)) u v ≡ true
  moved u v h = ap (λ r. (eqb a u && eqb b v) || r) (has_append classes orders u v) ∙ sym (swapped (has_arrow classes u v) (eqb a u && eqb b v) (has_arrow orders u v)) ∙ sym (has_append classes ((a, b) ∷ orders) u v) ∙ h

-- one more arrow of order, where nothing leads back from its end
one_order : (classes orders : List Arrow) (a b : ℕ) → leads classes orders b a ≡ false → Acyclic classes orders → Acyclic classes ((a, b) ∷ orders)
unfolding Acyclic
one_order classes orders a b open_way acyclic c d arrow = refuted _ (λ back. elim (first_or_later a b orders c d arrow) [
  | inl new ↦ elim (order_first classes orders a b d c back) [
    | inl straight ↦ sym open_way ∙ rw (new.0, new.1) straight
    | inr through ↦ sym open_way ∙ rw (new.1) through.0
  ]
  | inr old ↦ elim (order_first classes orders a b d c back) [
    | inl straight ↦ sym (acyclic c d old) ∙ straight
    | inr through ↦ sym open_way ∙ leads_trans classes orders b c a through.1 (leads_trans classes orders c d a (order_leads classes orders c d old) through.0)
  ]
])

-- what leads with two more class arrows, one each way: as before, or to one of the two and on from one of the two
class_first : (classes orders : List Arrow) (a b d c : ℕ) → leads ((a, b) ∷ (b, a) ∷ classes) orders d c ≡ true
    → (leads classes orders d c ≡ true)
    ⊎ (((leads classes orders d a ≡ true) ⊎ (leads classes orders d b ≡ true)) × ((leads classes orders a c ≡ true) ⊎ (leads classes orders b c ≡ true)))
unfolding leads
class_first classes orders a b d c h = elim (linked_ways (a, b) ((b, a) ∷ (classes ++ orders)) d c h) [
  | inl without ↦ elim (linked_ways (b, a) (classes ++ orders) d c without) [
    | inl straight ↦ inl straight
    | inr through ↦ inr (inr through.0, inl through.1)
  ]
  | inr through ↦ inr (
    elim (linked_ways (b, a) (classes ++ orders) d a through.0) [
      | inl straight ↦ inl straight
      | inr around ↦ inr around.0
    ],
    elim (linked_ways (b, a) (classes ++ orders) b c through.1) [
      | inl straight ↦ inr straight
      | inr around ↦ inl around.1
    ],
  )
]

-- a group commit of two between which no way leads
one_class : (classes orders : List Arrow) (a b : ℕ) → leads classes orders a b ≡ false → leads classes orders b a ≡ false → Acyclic classes orders → Acyclic ((a, b) ∷ (b, a) ∷ classes) orders
unfolding Acyclic
one_class classes orders a b there back acyclic c d arrow = refuted _ (λ cycle. elim (class_first classes orders a b d c cycle) [
  | inl straight ↦ sym (acyclic c d arrow) ∙ straight
  | inr around ↦ elim around.0 [
    | inl to_a ↦ elim around.1 [
      | inl from_a ↦ sym (acyclic c d arrow) ∙ leads_trans classes orders d a c to_a from_a
      | inr from_b ↦ sym back ∙ leads_trans classes orders b c a from_b (leads_trans classes orders c d a (order_leads classes orders c d arrow) to_a)
    ]
    | inr to_b ↦ elim around.1 [
      | inl from_a ↦ sym there ∙ leads_trans classes orders a c b from_a (leads_trans classes orders c d b (order_leads classes orders c d arrow) to_b)
      | inr from_b ↦ sym (acyclic c d arrow) ∙ leads_trans classes orders d b c to_b from_b
    ]
  ]
])

-- a group commit within a class adds nothing
within_class : (classes orders : List Arrow) (a b : ℕ) → leads classes orders a b ≡ true → leads classes orders b a ≡ true → Acyclic classes orders → Acyclic ((a, b) ∷ (b, a) ∷ classes) orders
unfolding Acyclic
within_class classes orders a b there back acyclic c d arrow = refuted _ (λ cycle. sym (acyclic c d arrow) ∙ elim (class_first classes orders a b d c cycle) [
  | inl straight ↦ straight
  | inr around ↦ elim around.0 [
    | inl to_a ↦ elim around.1 [
      | inl from_a ↦ leads_trans classes orders d a c to_a from_a
      | inr from_b ↦ leads_trans classes orders d b c (leads_trans classes orders d a b to_a there) from_b
    ]
    | inr to_b ↦ elim around.1 [
      | inl from_a ↦ leads_trans classes orders d a c (leads_trans classes orders d b a to_b back) from_a
      | inr from_b ↦ leads_trans classes orders d b c to_b from_b
    ]
  ]
])

-- ---- histories

-- the arrows that classes make, and those of order, among the live
classes_of : List Step → List Arrow
classes_of steps = among (live steps) (class_arrows steps)

orders_of : List Step → List Arrow
orders_of steps = among (live steps) (order_arrows steps)

-- who is live after a step, and was initiated before it, was live before it
live_before : (step : Step) (steps : List Step) (n : ℕ) → lists (initiated steps) n ≡ true → live (step ∷ steps) n ≡ true → live steps n ≡ true
unfolding live end_of
live_before step steps n known alive =
    and_from _ _ known (go (end_of steps n) _ (and_parts (lists (initiated (step ∷ steps)) n) _ alive).1) where
      go : (end by : Option End) → is_none (option_or end by) ≡ true → is_none end ≡ true
      go None by h = refl
      go (Some end) by h = h

-- an arrow both ways is one of a dependency
both_known : (steps : List Step) → IsOrderly steps → (u v : ℕ) → has_arrow (class_arrows steps) u v ≡ true → (lists (initiated steps) u ≡ true) × (lists (initiated steps) v ≡ true)
unfolding class_arrows
both_known steps orderly u v h = elim (or_cases _ (has_arrow (dependencies Gc steps) v u) (sym (has_both (dependencies Gc steps) u v) ∙ h)) [
  | inl there ↦ orderly.dependencies_known Gc u v there
  | inr back ↦ let both = orderly.dependencies_known Gc v u back in (both.1, both.0)
]

orders_known : (steps : List Step) → IsOrderly steps → (u v : ℕ) → has_arrow (order_arrows steps) u v ≡ true → (lists (initiated steps) u ≡ true) × (lists (initiated steps) v ≡ true)
unfolding order_arrows
orders_known steps orderly u v h = elim (or_cases _ (has_arrow (dependencies Ad steps) u v) (sym (has_append (dependencies Cd steps) (dependencies Ad steps) u v) ∙ h)) [
  | inl commit ↦ orderly.dependencies_known Cd u v commit
  | inr abort ↦ orderly.dependencies_known Ad u v abort
]

-- an arrow among the live of later steps is one among the live of earlier ones, if it was there and its ends were known
among_before : (step : Step) (steps : List Step) (arrows : List Arrow) (u v : ℕ) → (lists (initiated steps) u ≡ true) × (lists (initiated steps) v ≡ true) → live (step ∷ steps) u ≡ true → live (step ∷ steps) v ≡ true
    → has_arrow arrows u v ≡ true → has_arrow (among (live steps) arrows) u v ≡ true
among_before step steps arrows u v known from to arrow =
    has_among (live steps) arrows u v ∙ and_from _ _ (and_from _ _ (live_before step steps u known.0 from) (live_before step steps v known.1 to)) arrow

among_parts : (steps : List Step) (arrows : List Arrow) (u v : ℕ) → has_arrow (among (live steps) arrows) u v ≡ true → (live steps u ≡ true) × (live steps v ≡ true) × (has_arrow arrows u v ≡ true)
among_parts steps arrows u v h =
    let parts = and_parts (live steps u && live steps v) _ (sym (has_among (live steps) arrows u v) ∙ h) in
    let both = and_parts (live steps u) (live steps v) parts.0 in
    (both.0, both.1, parts.1)

-- a step that makes no dependency
no_dependency : (step : Step) (steps : List Step) → class_arrows (step ∷ steps) ≡ class_arrows steps → order_arrows (step ∷ steps) ≡ order_arrows steps → IsOrderly steps
    → Acyclic (classes_of steps) (orders_of steps) → Acyclic (classes_of (step ∷ steps)) (orders_of (step ∷ steps))
unfolding classes_of orders_of
no_dependency step steps classes orders orderly = fewer (classes_of steps) (orders_of steps) (classes_of (step ∷ steps)) (orders_of (step ∷ steps))
    (λ u v h.
    let parts = among_parts (step ∷ steps) (class_arrows (step ∷ steps)) u v h in
    let arrow : has_arrow (class_arrows steps) u v ≡ true = ap (λ arrows. has_arrow arrows u v) (sym classes) ∙ parts.2 in
    among_before step steps (class_arrows steps) u v (both_known steps orderly u v arrow) parts.0 parts.1 arrow)
    (λ u v h.
    let parts = among_parts (step ∷ steps) (order_arrows (step ∷ steps)) u v h in
    let arrow : has_arrow (order_arrows steps) u v ≡ true = ap (λ arrows. has_arrow arrows u v) (sym orders) ∙ parts.2 in
    among_before step steps (order_arrows steps) u v (orders_known steps orderly u v arrow) parts.0 parts.1 arrow)

-- an arrow that stands first, or a later one
here_or_later : (a b : ℕ) (arrows : List Arrow) (u v : ℕ) → ((a ≡ u) × (b ≡ v)) ⊎ (has_arrow arrows u v ≡ true) → has_arrow ((a, b) ∷ arrows) u v ≡ true
unfolding has_arrow
here_or_later a b arrows u v (inl here) = or_left _ _ (and_from _ _ (eq-eqb a u here.0) (eq-eqb b v here.1))
here_or_later a b arrows u v (inr later) = or_right (eqb a u && eqb b v) _ later

-- a commit or an abort dependency that was taken
ordered : (kind : Kind) (a b : Txn) (steps : List Step) → class_arrows (Depend kind a b ∷ steps) ≡ class_arrows steps → IsOrderly steps → leads (classes_of steps) (orders_of steps) b.0 a.0 ≡ false
    → Acyclic (classes_of steps) (orders_of steps) → Acyclic (classes_of (Depend kind a b ∷ steps)) (orders_of (Depend kind a b ∷ steps))
unfolding classes_of orders_of order_arrows
ordered kind a b steps classes orderly open_way acyclic = fewer (classes_of steps) ((a.0, b.0) ∷ orders_of steps) (classes_of (Depend kind a b ∷ steps)) (orders_of (Depend kind a b ∷ steps))
    (λ u v h.
    let parts = among_parts (Depend kind a b ∷ steps) (class_arrows (Depend kind a b ∷ steps)) u v h in
    let arrow : has_arrow (class_arrows steps) u v ≡ true = ap (λ arrows. has_arrow arrows u v) (sym classes) ∙ parts.2 in
    among_before (Depend kind a b) steps (class_arrows steps) u v (both_known steps orderly u v arrow) parts.0 parts.1 arrow)
    (λ u v h. let parts = among_parts (Depend kind a b ∷ steps) (order_arrows (Depend kind a b ∷ steps)) u v h in here_or_later a.0 b.0 (orders_of steps) u v (elim (order_more u v parts.2) [
      | inl new ↦ inl new
      | inr old ↦ inr (among_before (Depend kind a b) steps (order_arrows steps) u v (orders_known steps orderly u v old) parts.0 parts.1 old)
    ]))
    (one_order (classes_of steps) (orders_of steps) a.0 b.0 open_way acyclic) where
      order_more : (u v : ℕ) → has_arrow (order_arrows (Depend kind a b ∷ steps)) u v ≡ true → ((a.0 ≡ u) × (b.0 ≡ v)) ⊎ (has_arrow (order_arrows steps) u v ≡ true)
      order_more u v h = elim (or_cases (has_arrow (dependencies Cd (Depend kind a b ∷ steps)) u v) _ (sym (has_append (dependencies Cd (Depend kind a b ∷ steps)) (dependencies Ad (Depend kind a b ∷ steps)) u v) ∙ h)) [
        | inl commit ↦ elim (depend_arrow kind a b steps Cd u v commit) [
          | inl new ↦ inl new
          | inr old ↦ inr (has_append (dependencies Cd steps) (dependencies Ad steps) u v ∙ or_left _ _ old)
        ]
        | inr abort ↦ elim (depend_arrow kind a b steps Ad u v abort) [
          | inl new ↦ inl new
          | inr old ↦ inr (has_append (dependencies Cd steps) (dependencies Ad steps) u v ∙ or_right (has_arrow (dependencies Cd steps) u v) _ old)
        ]
      ]

-- a group commit that was taken
grouped : (a b : Txn) (steps : List Step) → IsOrderly steps → closes_cycle Gc (classes_of steps) (orders_of steps) a.0 b.0 ≡ false
    → Acyclic (classes_of steps) (orders_of steps) → Acyclic (classes_of (Depend Gc a b ∷ steps)) (orders_of (Depend Gc a b ∷ steps))
unfolding classes_of orders_of closes_cycle class_arrows order_arrows dependencies dependency_by same_kind both_ways
grouped a b steps orderly taken acyclic = fewer ((a.0, b.0) ∷ (b.0, a.0) ∷ classes_of steps) (orders_of steps) (classes_of (Depend Gc a b ∷ steps)) (orders_of (Depend Gc a b ∷ steps))
    (λ u v h. let parts = among_parts (Depend Gc a b ∷ steps) (class_arrows (Depend Gc a b ∷ steps)) u v h in here_or_later a.0 b.0 _ u v (elim (first_or_later a.0 b.0 ((b.0, a.0) ∷ class_arrows steps) u v (as_two u v parts.2)) [
      | inl new ↦ inl new
      | inr rest ↦ inr (here_or_later b.0 a.0 (classes_of steps) u v (elim (first_or_later b.0 a.0 (class_arrows steps) u v rest) [
        | inl back ↦ inl back
        | inr old ↦ inr (among_before (Depend Gc a b) steps (class_arrows steps) u v (both_known steps orderly u v old) parts.0 parts.1 old)
      ]))
    ]))
    (λ u v h. let parts = among_parts (Depend Gc a b ∷ steps) (order_arrows (Depend Gc a b ∷ steps)) u v h in among_before (Depend Gc a b) steps (order_arrows steps) u v (orders_known steps orderly u v (as_before u v parts.2)) parts.0 parts.1 (as_before u v parts.2))
    (stays (linked (classes_of steps) a.0 b.0) refl taken) where
      as_two : (u v : ℕ) → has_arrow (class_arrows (Depend Gc a b ∷ steps)) u v ≡ true → has_arrow ((a.0, b.0) ∷ (b.0, a.0) ∷ class_arrows steps) u v ≡ true
      as_two u v h = h

      as_before : (u v : ℕ) → has_arrow (order_arrows (Depend Gc a b ∷ steps)) u v ≡ true → has_arrow (order_arrows steps) u v ≡ true
      as_before u v h = h

      turned : linked (classes_of steps) a.0 b.0 ≡ true → linked (classes_of steps) b.0 a.0 ≡ true
      turned = both_back (live steps) (dependencies Gc steps) a.0 b.0

      stays : (same : Bool) → linked (classes_of steps) a.0 b.0 ≡ same
          → (not same && (leads (classes_of steps) (orders_of steps) a.0 b.0 || leads (classes_of steps) (orders_of steps) b.0 a.0)) ≡ false
          → Acyclic ((a.0, b.0) ∷ (b.0, a.0) ∷ classes_of steps) (orders_of steps)
      stays true e h = within_class (classes_of steps) (orders_of steps) a.0 b.0 (class_leads _ _ a.0 b.0 e) (class_leads _ _ b.0 a.0 (turned e)) acyclic
      stays false e h = let none = or_parts (leads (classes_of steps) (orders_of steps) a.0 b.0) _ h in one_class (classes_of steps) (orders_of steps) a.0 b.0 none.0 none.1 acyclic

-- one more step that took effect closes no cycle
one_more : (opening : Opening) (step : Step) (steps : List Step) (reply : Reply) → answer opening steps step ≡ Answer reply → takes_effect step reply ≡ true → IsOrderly steps
    → Acyclic (classes_of steps) (orders_of steps) → Acyclic (classes_of (step ∷ steps)) (orders_of (step ∷ steps))
unfolding class_arrows order_arrows dependencies dependency_by would_cycle closes_cycle classes_of orders_of same_kind
one_more opening (Initiate t parent) steps reply is effect orderly = no_dependency (Initiate t parent) steps refl refl orderly
one_more opening (Begin t) steps reply is effect orderly = no_dependency (Begin t) steps refl refl orderly
one_more opening (Read t x) steps reply is effect orderly = no_dependency (Read t x) steps refl refl orderly
one_more opening (Write t x v) steps reply is effect orderly = no_dependency (Write t x v) steps refl refl orderly
one_more opening (Add t x d) steps reply is effect orderly = no_dependency (Add t x d) steps refl refl orderly
one_more opening (Complete t) steps reply is effect orderly = no_dependency (Complete t) steps refl refl orderly
one_more opening (Permit giver taker obs ops) steps reply is effect orderly = no_dependency (Permit giver taker obs ops) steps refl refl orderly
one_more opening (Delegate giver taker obs) steps reply is effect orderly = no_dependency (Delegate giver taker obs) steps refl refl orderly
one_more opening (Commit t) steps reply is effect orderly = no_dependency (Commit t) steps refl refl orderly
one_more opening (Abort t) steps reply is effect orderly = no_dependency (Abort t) steps refl refl orderly
one_more opening (WaitFor t) steps reply is effect orderly = no_dependency (WaitFor t) steps refl refl orderly
one_more opening (PermitAny giver obs ops) steps reply is effect orderly = no_dependency (PermitAny giver obs ops) steps refl refl orderly
one_more opening (Depend kind a b) steps reply is effect orderly = by kind (depend_live opening steps kind a b reply is effect).3 where
  by : (kind : Kind) → would_cycle steps kind a.0 b.0 ≡ false → Acyclic (classes_of steps) (orders_of steps) → Acyclic (classes_of (Depend kind a b ∷ steps)) (orders_of (Depend kind a b ∷ steps))
  by Cd taken acyclic = ordered Cd a b steps refl orderly taken acyclic
  by Ad taken acyclic = ordered Ad a b steps refl orderly taken acyclic
  by Gc taken acyclic = grouped a b steps orderly taken acyclic

-- no cycle stands in any legal history
none_stands : (opening : Opening) (entries : List Entry) → IsLegal opening entries → Acyclic (classes_of (applied entries)) (orders_of (applied entries))
unfolding IsLegal applied Acyclic classes_of orders_of order_arrows dependencies among has_arrow
none_stands opening [] legal = λ c d arrow. absurd (false≢true arrow)
none_stands opening (entry ∷ older) legal = go (takes_effect entry.0 entry.1) refl (none_stands opening older legal.1) where
  go : (effect : Bool) → takes_effect entry.0 entry.1 ≡ effect → Acyclic (classes_of (applied older)) (orders_of (applied older))
      → Acyclic (classes_of (cond effect (entry.0 ∷ applied older) (applied older))) (orders_of (cond effect (entry.0 ∷ applied older) (applied older)))
  go true e acyclic = one_more opening entry.0 (applied older) entry.1 legal.0 e (legal_orderly opening older legal.1) acyclic
  go false e acyclic = acyclic

pub acyclic_always : (opening : Opening) (entries : List Entry) → IsLegal opening entries
    → IsAcyclic (among (live (applied entries)) (class_arrows (applied entries))) (among (live (applied entries)) (order_arrows (applied entries)))
unfolding Acyclic classes_of orders_of
acyclic_always opening entries legal c d arrow path = false≢true (sym (none_stands opening entries legal c d arrow) ∙ path_leads _ _ d c path)
