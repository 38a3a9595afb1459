-- Nodes are taken away from which no arrow leads to a node that is left: the cycles stay the same.
use Rattle.std.proofs.Common.{◌≡◌, ℕ, ◌+◌, ◌<◌, Bool, true, false, cond, eqb, not, ◌&&◌, List, [], ◌∷◌, ◌++◌, length, get_or, set, map, take, replicate, refl, sym, ap, subst, ◌∙◌, arith, inl, inr}
use Rattle.std.specs.List.{find, range_with_len}
use Rattle.std.proofs.lemmas.Bool.{and_from, and_parts, or_parts, or_from, ne_eqb, not-true, not_from_false, true≢false, cases_eq, cases_lt}
use Rattle.std.proofs.lemmas.List.{get_or-set_same, get_or-set_other, get_or-replicate, length-replicate, get_or_past}
use Rattle.std.proofs.lemmas.List.Elements.{All-filter, filter_more}
use Rattle.asset_names.specs.Arrows.{Arrow, linked, lists, has_arrow, among, Chain}
use Rattle.asset_names.specs.Arrows.Chain.{stay, along}
use Rattle.asset_names.proofs.Arrows.{linked_refl, linked_trans, chain_from_linked}
use Rattle.asset_names.proofs.PermitLemmas.{has_listed, linked_has, linked_more, has_among}
use Rattle.asset_names.proofs.Common.{both_follow}
use Rattle.asset_names.proofs.ListLemmas.{lists_pushed}
use Rattle.asset_marks.proofs.WalkLemmas.{met_listed, nothing_listed}
use Rattle.asset_cycles.specs.Cyclic.{AreBelow, turned, reaches, on_one_cycle, label_below, cycle_labels}
use Rattle.asset_cycles.specs.Leaving.{end_at}
use Rattle.asset_cycles.specs.Trimmed.{IsTrimmed, ArePassed}
use Rattle.asset_cycles.proofs.ReachLemmas.{reaches_by, reach_parts, reaches_turned}

-- ---- the same cycles have the same labels
pub same_labels : (ones others : List Arrow) (count : ℕ) → ((u v : ℕ) → on_one_cycle ones u v ≡ on_one_cycle others u v) → cycle_labels ones count ≡ cycle_labels others count
unfolding cycle_labels label_below
same_labels ones others count same = λ m. map (λ u. find (λ v. same u v m) (range_with_len 0 count)) (range_with_len 0 count)

turned_cycle : (arrows : List Arrow) (u v : ℕ) → on_one_cycle (turned arrows) u v ≡ on_one_cycle arrows u v
unfolding on_one_cycle
turned_cycle arrows u v = (λ m. reaches_turned arrows u v m && reaches_turned arrows v u m) ∙ swap (reaches arrows v u) (reaches arrows u v) where
  swap : (p q : Bool) → (p && q) ≡ (q && p)
  swap true true = refl
  swap true false = refl
  swap false true = refl
  swap false false = refl

pub turned_labels : (arrows : List Arrow) (count : ℕ) → cycle_labels (turned arrows) count ≡ cycle_labels arrows count
turned_labels arrows count = same_labels (turned arrows) arrows count (turned_cycle arrows)

-- ---- a node from which no arrow leads is on no cycle
-- fewer arrows reach no more
fewer_reach : (few all : List Arrow) → ((u v : ℕ) → has_arrow few u v ≡ true → has_arrow all u v ≡ true) → (a b : ℕ) → reaches few a b ≡ true → reaches all a b ≡ true
fewer_reach few all more a b h =
    let parts = reach_parts few a b h in
    reaches_by all a parts.0 b (more a parts.0 parts.1) (linked_more few all more parts.0 b parts.2)

module _ (all few : List Arrow) (x : ℕ) (stuck : (t : ℕ) → has_arrow all x t ≡ true → ⊥) (kept : (u v : ℕ) → has_arrow all u v ≡ true → (u ≡ x → ⊥) → (v ≡ x → ⊥) → has_arrow few u v ≡ true) where
  -- an arrow leads from another node
  leaves : (a t : ℕ) → has_arrow all a t ≡ true → a ≡ x → ⊥
  leaves a t arrow same = stuck t (subst (λ n. has_arrow all n t ≡ true) same arrow)

  -- a chain to another node starts at another node
  starts_apart : (a b : ℕ) → Chain all a b → (b ≡ x → ⊥) → a ≡ x → ⊥
  starts_apart a b (stay n) apart same = apart same
  starts_apart a b (along m n o first rest) apart same = leaves a n (has_listed all a n first) same

  chain_kept : (a b : ℕ) → Chain all a b → (b ≡ x → ⊥) → linked few a b ≡ true
  chain_kept a b (stay n) apart = linked_refl few a
  chain_kept a b (along m n o first rest) apart =
      let arrow = has_listed all a n first in
      linked_trans few a n b (linked_has few a n (kept a n arrow (leaves a n arrow) (starts_apart n b rest apart))) (chain_kept n b rest apart)

  reach_kept : (a b : ℕ) → (b ≡ x → ⊥) → reaches all a b ≡ true → reaches few a b ≡ true
  reach_kept a b apart h =
      let parts = reach_parts all a b h in
      let chain = chain_from_linked all parts.0 b parts.2 in
      reaches_by few a parts.0 b (kept a parts.0 parts.1 (leaves a parts.0 parts.1) (starts_apart parts.0 b chain apart)) (chain_kept parts.0 b chain apart)

  -- a node that reaches another is another
  reaching : (a b : ℕ) → reaches all a b ≡ true → a ≡ x → ⊥
  reaching a b h = let parts = reach_parts all a b h in leaves a parts.0 parts.1

  pub cycles_kept : ((u v : ℕ) → has_arrow few u v ≡ true → has_arrow all u v ≡ true) → (a b : ℕ) → on_one_cycle few a b ≡ on_one_cycle all a b
  unfolding on_one_cycle
  cycles_kept more a b = both_follow _ _
      (λ h.
      let parts = and_parts (reaches few a b) (reaches few b a) h in
      and_from _ _ (fewer_reach few all more a b parts.0) (fewer_reach few all more b a parts.1))
      (λ h.
      let parts = and_parts (reaches all a b) (reaches all b a) h in
      and_from _ _ (reach_kept a b (reaching b a parts.1) parts.0) (reach_kept b a (reaching a b parts.0) parts.1))

-- ---- nodes that are taken away
-- an arrow between nodes that are left
left_parts : (taken : List ℕ) (arrows : List Arrow) (u v : ℕ) → has_arrow (among (λ n. not (lists taken n)) arrows) u v ≡ true → (lists taken u ≡ false) × (lists taken v ≡ false) × (has_arrow arrows u v ≡ true)
left_parts taken arrows u v h =
    let parts = and_parts (not (lists taken u) && not (lists taken v)) _ (sym (has_among (λ n. not (lists taken n)) arrows u v) ∙ h) in
    let both = and_parts (not (lists taken u)) (not (lists taken v)) parts.0 in
    (not-true _ both.0, not-true _ both.1, parts.1)

left_from : (taken : List ℕ) (arrows : List Arrow) (u v : ℕ) → lists taken u ≡ false → lists taken v ≡ false → has_arrow arrows u v ≡ true → has_arrow (among (λ n. not (lists taken n)) arrows) u v ≡ true
left_from taken arrows u v first second arrow =
    has_among (λ n. not (lists taken n)) arrows u v ∙ and_from _ _ (and_from _ _ (not_from_false (lists taken u) first) (not_from_false (lists taken v) second)) arrow

-- what is the same along arrows that lead alike
same_cycles : (ones others : List Arrow) → ((u v : ℕ) → has_arrow ones u v ≡ true → has_arrow others u v ≡ true) → ((u v : ℕ) → has_arrow others u v ≡ true → has_arrow ones u v ≡ true) → (a b : ℕ) → on_one_cycle ones a b ≡ on_one_cycle others a b
unfolding on_one_cycle
same_cycles ones others to back a b = λ m. same a b m && same b a m where
  same : (a b : ℕ) → reaches ones a b ≡ reaches others a b
  same a b = both_follow _ _ (fewer_reach ones others to a b) (fewer_reach others ones back a b)

pub none_taken : (arrows : List Arrow) → IsTrimmed arrows []
none_taken arrows = same_cycles (among (λ n. not (lists [] n)) arrows) arrows
    (λ u v h. (left_parts [] arrows u v h).2)
    (λ u v h. left_from [] arrows u v (nothing_listed u) (nothing_listed v) h)

-- one more node is taken away, all of whose arrows lead to nodes that are taken away
one_fewer : (arrows : List Arrow) (taken : List ℕ) (node : ℕ) → ((t : ℕ) → has_arrow arrows node t ≡ true → lists taken t ≡ true)
    → (u v : ℕ) → on_one_cycle (among (λ n. not (lists (taken ++ node ∷ []) n)) arrows) u v ≡ on_one_cycle (among (λ n. not (lists taken n)) arrows) u v
one_fewer arrows taken node closed = cycles_kept (among (λ n. not (lists taken n)) arrows) (among (λ n. not (lists (taken ++ node ∷ []) n)) arrows) node
    (λ t arrow. let parts = left_parts taken arrows node t arrow in true≢false (sym (closed t parts.2) ∙ parts.1))
    (λ u v arrow first second.
    let parts = left_parts taken arrows u v arrow in
    left_from (taken ++ node ∷ []) arrows u v (left u parts.0 first) (left v parts.1 second) parts.2)
    (λ u v arrow.
    let parts = left_parts (taken ++ node ∷ []) arrows u v arrow in
    left_from taken arrows u v (apart u parts.0) (apart v parts.1) parts.2) where
      apart : (n : ℕ) → lists (taken ++ node ∷ []) n ≡ false → lists taken n ≡ false
      apart n h = (or_parts (lists taken n) (eqb node n) (sym (lists_pushed taken node n) ∙ h)).0

      left : (n : ℕ) → lists taken n ≡ false → (n ≡ node → ⊥) → lists (taken ++ node ∷ []) n ≡ false
      left n h other = lists_pushed taken node n ∙ or_from (lists taken n) (eqb node n) h (ne_eqb node n (λ same. other (sym same)))

pub one_taken : (arrows : List Arrow) (taken after : List ℕ) (node : ℕ) → IsTrimmed arrows taken → ((t : ℕ) → has_arrow arrows node t ≡ true → lists taken t ≡ true) → after ≡ cond (lists taken node) taken (taken ++ node ∷ []) → IsTrimmed arrows after
one_taken arrows taken after node trimmed closed is = subst (IsTrimmed arrows) (sym is) (go (lists taken node)) where
  go : (b : Bool) → IsTrimmed arrows (cond b taken (taken ++ node ∷ []))
  go true = trimmed
  go false = λ u v. one_fewer arrows taken node closed u v ∙ trimmed u v

-- ---- how many arrows of each node are passed
pub none_passed : (arrows : List Arrow) (leaving : List (List ℕ)) (taken : List ℕ) (count : ℕ) → ArePassed arrows leaving taken (replicate {A = ℕ} count 0)
none_passed arrows leaving taken count node i before = absurd (elim (cases_lt node count) [
  | inl inside ↦ omega (arith, before, get_or-replicate {A = ℕ} count node 0 0 inside)
  | inr past ↦ omega (arith, before, get_or_past (replicate {A = ℕ} count 0) node 0 (omega (arith, past, length-replicate {A = ℕ} count 0)))
])

pub more_passed : (arrows : List Arrow) (leaving : List (List ℕ)) (taken passed : List ℕ) (node more : ℕ) → node < length passed → ArePassed arrows leaving taken passed → ((i : ℕ) → i < more → lists taken (end_at arrows leaving node i) ≡ true) → ArePassed arrows leaving taken (set passed node more)
more_passed arrows leaving taken passed node more inside before here n i below = elim (cases_eq n node) [
  | inl same ↦ ap (λ k. lists taken (end_at arrows leaving k i)) same ∙ here i (subst (λ k. i < k) (ap (λ k. get_or (set passed node more) k 0) same ∙ get_or-set_same passed node more 0 inside) below)
  | inr other ↦ before n i (subst (λ k. i < k) (get_or-set_other passed node n more 0 other) below)
]

pub still_passed : (arrows : List Arrow) (leaving : List (List ℕ)) (taken after passed : List ℕ) (node : ℕ) → after ≡ cond (lists taken node) taken (taken ++ node ∷ []) → ArePassed arrows leaving taken passed → ArePassed arrows leaving after passed
still_passed arrows leaving taken after passed node is before n i below = met_listed taken after node (end_at arrows leaving n i) is (before n i below)

-- ---- the arrows that are left
pub left_below : (test : ℕ → Bool) (arrows : List Arrow) (count : ℕ) → AreBelow arrows count → AreBelow (among test arrows) count
unfolding among
left_below test arrows count below = All-filter (λ (arrow : Arrow). test arrow.0 && test arrow.1) (λ (arrow : Arrow). (arrow.0 < count) × (arrow.1 < count)) arrows below

-- one more arrow, which is left or not
pub one_left : (test : ℕ → Bool) (arrows : List Arrow) (k : ℕ) (before after : List Arrow) (stays : Bool) → k < length arrows → stays ≡ (test (get_or arrows k (0, 0)).0 && test (get_or arrows k (0, 0)).1) → before ≡ among test (take k arrows)
    → after ≡ before ++ cond stays (get_or arrows k (0, 0) ∷ []) [] → after ≡ among test (take (k + 1) arrows)
unfolding among
one_left test arrows k before after stays below is so_far more =
    more
    ∙ ap (λ (l : List Arrow). l ++ cond stays (get_or arrows k (0, 0) ∷ []) []) so_far
    ∙ ap (λ b. among test (take k arrows) ++ cond b (get_or arrows k (0, 0) ∷ []) []) is
    ∙ sym (filter_more (λ (arrow : Arrow). test arrow.0 && test arrow.1) arrows k (0, 0) below)

pub no_arrows_left : (test : ℕ → Bool) → among test [] ≡ []
unfolding among
no_arrows_left test = refl
