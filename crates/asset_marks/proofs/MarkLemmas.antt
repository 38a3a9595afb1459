-- The marks of a search: two lists that say of each other where a node stands.
use Rattle.std.proofs.Common.{◌≡◌, ℕ, ◌+◌, ◌<◌, ◌≤◌, Bool, true, false, eqb, ltb, not, ◌&&◌, List, [], ◌∷◌, ◌++◌, length, get_or, set, take, refl, sym, ap, subst, ◌∙◌, arith, inl, inr}
use Rattle.std.specs.List.{IsDistinct}
use Rattle.std.proofs.lemmas.Bool.{and_from, and_parts, eqb-true, eq-eqb, ne_eqb, ltb-true, lt-ltb, le-ltb, false≢true, cases_eq}
use Rattle.std.proofs.lemmas.Map.Keys.{IsDistinct-from_apart}
use Rattle.std.proofs.lemmas.List.{get_or_default, length-set, get_or-set_same, get_or-set_other, get_or-take, length-take-le, take_more_set, take-set-le}
use Rattle.asset_names.specs.Arrows.{lists}
use Rattle.asset_names.proofs.Common.{both_follow}
use Rattle.asset_names.proofs.ListLemmas.{listed_at, lists_at}
use Rattle.asset_marks.specs.Marked.{IsValid}

-- ---- a list after two writes
read_last : (l : List ℕ) (i j k a b : ℕ) → k ≡ j → j < length l → get_or (set (set l i a) j b) k 0 ≡ b
read_last l i j k a b is below = rw is (get_or-set_same (set l i a) j b 0 (rw length-set below))

read_first : (l : List ℕ) (i j k a b : ℕ) → (k ≡ j → ⊥) → k ≡ i → i < length l → get_or (set (set l i a) j b) k 0 ≡ a
read_first l i j k a b not_last is below = get_or-set_other (set l i a) j k b 0 not_last ∙ rw is (get_or-set_same l i a 0 below)

read_other : (l : List ℕ) (i j k a b : ℕ) → (k ≡ j → ⊥) → (k ≡ i → ⊥) → get_or (set (set l i a) j b) k 0 ≡ get_or l k 0
read_other l i j k a b not_last not_first = get_or-set_other (set l i a) j k b 0 not_last ∙ get_or-set_other l i k a 0 not_first

two_writes : (l : List ℕ) (i j a b : ℕ) → length (set (set l i a) j b) ≡ length l
two_writes l i j a b = length-set (set l i a) j b ∙ length-set l i a

-- ---- a node is met where its position is among the first
pub has_mark : (order position : List ℕ) (met node : ℕ) → IsValid order position met → node < length order → ltb (get_or position node 0) met ≡ lists (take met order) node
has_mark order position met node placed below =
    let here = placed.positions node below in
    both_follow (ltb (get_or position node 0) met) (lists (take met order) node)
    (λ first.
    let before : get_or position node 0 < met = ltb-true (get_or position node 0) met first in
    lists_at (take met order) node (get_or position node 0) (rw (length-take-le met order placed.within) before) (get_or-take met order (get_or position node 0) 0 before ∙ here.1))
    (λ listed.
    let found = listed_at (take met order) node listed in
    let before : found.0 < met = subst (λ n. found.0 < n) (length-take-le met order placed.within) found.1 in
    let is : get_or order found.0 0 ≡ node = sym (get_or-take met order found.0 0 before) ∙ found.2 in
    let at : get_or position node 0 ≡ found.0 = sym (ap (λ n. get_or position n 0) is) ∙ (placed.nodes found.0 (omega (arith, placed.within, before))).1 in
    lt-ltb (get_or position node 0) met (omega (arith, at, before)))

-- ---- a node that is not met changes positions with the first of those that are not
swapped_nodes : (order position : List ℕ) (first met node at other : ℕ) → IsValid order position first → node < length order → at ≡ get_or position node 0 → met < length order → other ≡ get_or order met 0
    → (i : ℕ) → i < length order
    → (get_or (set (set order at other) met node) i 0 < length order) × (get_or (set (set position other at) node met) (get_or (set (set order at other) met node) i 0) 0 ≡ i)
swapped_nodes order position first met node at other placed below is_at met_below is_other i within =
    let here = placed.positions node below in
    let there = placed.nodes met met_below in
    let at_node : get_or order at 0 ≡ node = rw is_at here.1 in
    let other_below : other < length order = omega (arith, there.0) in
    let sizes = placed.same_size in
    elim (cases_eq i met) [
      | inl last ↦
          let is = read_last order at met i other node last met_below in
          rw is (below, read_last position other node node at met refl (omega arith) ∙ sym last)
      | inr not_last ↦ elim (cases_eq i at) [
        | inl second ↦
            let is = read_first order at met i other node not_last second (omega (arith, here.0)) in
            let apart : other ≡ node → ⊥ = λ same. not_last (second ∙ is_at ∙ sym (ap (λ n. get_or position n 0) (sym is_other ∙ same)) ∙ there.1) in
            rw is (other_below, read_first position other node other at met apart refl (omega arith) ∙ sym second)
        | inr not_second ↦
            let is = read_other order at met i other node not_last not_second in
            let old = placed.nodes i within in
            let not_node : get_or order i 0 ≡ node → ⊥ = λ same. not_second (sym old.1 ∙ ap (λ n. get_or position n 0) same ∙ sym is_at) in
            let not_other : get_or order i 0 ≡ other → ⊥ = λ same. not_last (sym old.1 ∙ ap (λ n. get_or position n 0) (same ∙ is_other) ∙ there.1) in
            rw is (old.0, read_other position other node (get_or order i 0) at met not_node not_other ∙ old.1)
      ]
    ]

swapped_positions : (order position : List ℕ) (first met node at other : ℕ) → IsValid order position first → node < length order → at ≡ get_or position node 0 → met < length order → other ≡ get_or order met 0
    → (n : ℕ) → n < length order
    → (get_or (set (set position other at) node met) n 0 < length order) × (get_or (set (set order at other) met node) (get_or (set (set position other at) node met) n 0) 0 ≡ n)
swapped_positions order position first met node at other placed below is_at met_below is_other n within =
    let here = placed.positions node below in
    let at_below : at < length order = omega (arith, here.0) in
    let there = placed.nodes met met_below in
    let at_node : get_or order at 0 ≡ node = rw is_at here.1 in
    let other_below : other < length order = omega (arith, there.0) in
    let sizes = placed.same_size in
    elim (cases_eq n node) [
      | inl last ↦
          let is = read_last position other node n at met last (omega arith) in
          rw is (met_below, read_last order at met met other node refl met_below ∙ sym last)
      | inr not_last ↦ elim (cases_eq n other) [
        | inl second ↦
            let is = read_first position other node n at met not_last second (omega arith) in
            let apart : at ≡ met → ⊥ = λ same. not_last (second ∙ is_other ∙ sym (ap (λ k. get_or order k 0) same) ∙ at_node) in
            rw is (at_below, read_first order at met at other node apart refl at_below ∙ sym second)
        | inr not_second ↦
            let is = read_other position other node n at met not_last not_second in
            let old = placed.positions n within in
            let not_at : get_or position n 0 ≡ at → ⊥ = λ same. not_last (sym old.1 ∙ ap (λ k. get_or order k 0) same ∙ at_node) in
            let not_met : get_or position n 0 ≡ met → ⊥ = λ same. not_second (sym old.1 ∙ ap (λ k. get_or order k 0) same ∙ sym is_other) in
            rw is (old.0, read_other order at met (get_or position n 0) other node not_met not_at ∙ old.1)
      ]
    ]

pub swapped : (order position : List ℕ) (first met node at other more : ℕ) → IsValid order position first → node < length order → at ≡ get_or position node 0 → met < length order → other ≡ get_or order met 0
    → more ≤ length order → IsValid (set (set order at other) met node) (set (set position other at) node met) more
swapped order position first met node at other more placed below is_at met_below is_other few =
    let size = two_writes order at met other node in
    let sizes = two_writes position other node at met in
    record {
      within = omega (arith, size, few);
      same_size = sizes ∙ placed.same_size ∙ sym size;
      nodes = λ i within. rw size (swapped_nodes order position first met node at other placed below is_at met_below is_other i (omega (arith, size)));
      positions = λ n within. rw size (swapped_positions order position first met node at other placed below is_at met_below is_other n (omega (arith, size)));
    }

-- the nodes met after the swap
pub swapped_met : (order : List ℕ) (met node at other : ℕ) → met ≤ at → at < length order → take (met + 1) (set (set order at other) met node) ≡ take met order ++ node ∷ []
swapped_met order met node at other after below =
    take_more_set (set order at other) met node (rw length-set (omega arith)) ∙ ap (λ (l : List ℕ). l ++ node ∷ []) (take-set-le met order at other after)

-- ---- fewer are met
pub fewer_met : (order position : List ℕ) (met fewer : ℕ) → IsValid order position met → fewer ≤ met → IsValid order position fewer
fewer_met order position met fewer placed few = record { within = omega (arith, placed.within, few); same_size = placed.same_size; nodes = placed.nodes; positions = placed.positions }

-- a node that is met is among those that there are
pub met_within : (order position : List ℕ) (met n : ℕ) → IsValid order position met → lists (take met order) n ≡ true → n < length order
met_within order position met n placed listed =
    let found = listed_at (take met order) n listed in
    let before : found.0 < met = subst (λ k. found.0 < k) (length-take-le met order placed.within) found.1 in
    let is : get_or order found.0 0 ≡ n = sym (get_or-take met order found.0 0 before) ∙ found.2 in
    subst (λ k. k < length order) is (placed.nodes found.0 (omega (arith, placed.within, before))).0

-- the node that was met last is not among those before it
pub last_alone : (order position : List ℕ) (met node : ℕ) → IsValid order position (met + 1) → node ≡ get_or order met 0 → lists (take met order) node ≡ false
last_alone order position met node placed is =
    let here = placed.nodes met (omega (arith, placed.within)) in
    let at : get_or position node 0 ≡ met = ap (λ n. get_or position n 0) is ∙ here.1 in
    sym (has_mark order position met node (fewer_met order position (met + 1) met placed (omega arith)) (rw is here.0)) ∙ le-ltb (get_or position node 0) met (omega (arith, at))

-- no node is met twice
pub met_once : (order position : List ℕ) (met : ℕ) → IsValid order position met → IsDistinct eqb (take met order)
met_once order position met placed = IsDistinct-from_apart eqb (take met order) (λ i j d earlier below.
    let within : j < met = subst (λ k. j < k) (length-take-le met order placed.within) below in
    let first = placed.nodes i (omega (arith, placed.within, within, earlier)) in
    let second = placed.nodes j (omega (arith, placed.within, within)) in
    let at_i : get_or (take met order) i d ≡ get_or order i 0 = get_or-take met order i d (omega (arith, within, earlier)) ∙ get_or_default order i d 0 (omega (arith, placed.within, within, earlier)) in
    let at_j : get_or (take met order) j d ≡ get_or order j 0 = get_or-take met order j d within ∙ get_or_default order j d 0 (omega (arith, placed.within, within)) in
    ne_eqb _ _ (λ same.
    let one : i ≡ j = sym first.1 ∙ ap (λ n. get_or position n 0) (sym at_i ∙ same ∙ at_j) ∙ second.1 in
    omega (arith, one, earlier)))

-- ---- a node is forgotten: it changes positions with the last of those that are met
pub forgotten : (order position : List ℕ) (met last node at other : ℕ) → IsValid order position met → node < length order → at ≡ get_or position node 0 → at < met → last + 1 ≡ met → other ≡ get_or order last 0
    → (n : ℕ) → lists (take last (set (set order at other) last node)) n ≡ (lists (take met order) n && not (eqb n node))
forgotten order position met last node at other placed below is_at before is_last is_other n = both_follow _ _ to back where
  last_below : last < length order
  last_below = omega (arith, placed.within, is_last)

  size : length (set (set order at other) last node) ≡ length order
  size = two_writes order at last other node

  valid : IsValid (set (set order at other) last node) (set (set position other at) node last) last
  valid = swapped order position met last node at other last placed below is_at last_below is_other (omega (arith, last_below))

  sizes : length position ≡ length order
  sizes = placed.same_size

  there : (get_or order last 0 < length order) × (get_or position (get_or order last 0) 0 ≡ last)
  there = placed.nodes last last_below

  other_below : other < length order
  other_below = rw is_other there.0

  -- where the node at n stands now
  position_of : ℕ
  position_of = get_or (set (set position other at) node last) n 0

  marked : n < length order → lists (take last (set (set order at other) last node)) n ≡ ltb position_of last
  marked within = sym (has_mark (set (set order at other) last node) (set (set position other at) node last) last n valid (omega (arith, size, within)))

  was : n < length order → lists (take met order) n ≡ ltb (get_or position n 0) met
  was within = sym (has_mark order position met n placed within)

  not_last : n < length order → (n ≡ other → ⊥) → get_or position n 0 ≡ last → ⊥
  not_last within apart is = apart (sym (placed.positions n within).1 ∙ ap (λ k. get_or order k 0) is ∙ sym is_other)

  to : lists (take last (set (set order at other) last node)) n ≡ true → (lists (take met order) n && not (eqb n node)) ≡ true
  to listed =
      let within : n < length order = subst (λ k. n < k) size (met_within (set (set order at other) last node) (set (set position other at) node last) last n valid listed) in
      let first : position_of < last = ltb-true position_of last (sym (marked within) ∙ listed) in
      let apart : n ≡ node → ⊥ = λ is. let at_end = read_last position other node n at last is (omega (arith, sizes, below)) in omega (arith, at_end, first) in
      and_from _ _ (was within ∙ lt-ltb (get_or position n 0) met (earlier within apart first)) (ap not (ne_eqb n node apart)) where
        earlier : n < length order → (n ≡ node → ⊥) → position_of < last → get_or position n 0 < met
        earlier within apart first = elim (cases_eq n other) [
          | inl is ↦ let old : get_or position n 0 ≡ last = ap (λ k. get_or position k 0) (is ∙ is_other) ∙ there.1 in omega (arith, old, is_last)
          | inr differs ↦ let same = read_other position other node n at last apart differs in omega (arith, same, first, is_last)
        ]

  back : (lists (take met order) n && not (eqb n node)) ≡ true → lists (take last (set (set order at other) last node)) n ≡ true
  back h =
      let both = and_parts (lists (take met order) n) (not (eqb n node)) h in
      let within = met_within order position met n placed both.0 in
      let apart : n ≡ node → ⊥ = λ is. false≢true (ap not (sym (eq-eqb n node is)) ∙ both.1) in
      let first : get_or position n 0 < met = ltb-true (get_or position n 0) met (sym (was within) ∙ both.0) in
      marked within ∙ lt-ltb position_of last (now within apart first) where
        now : n < length order → (n ≡ node → ⊥) → get_or position n 0 < met → position_of < last
        now within apart first = elim (cases_eq n other) [
          | inl is ↦
              let moved = read_first position other node n at last apart is (omega (arith, sizes, other_below)) in
              let differs : at ≡ last → ⊥ = λ same. apart (is ∙ is_other ∙ ap (λ k. get_or order k 0) (sym same ∙ is_at) ∙ (placed.positions node below).1) in
              before_last (get_or (set (set position other at) node last) n 0) moved differs
          | inr differs ↦ let same = read_other position other node n at last apart differs in let not_end = not_last within differs in less_of (get_or position n 0) position_of same first not_end
        ] where
          before_last : (p : ℕ) → p ≡ at → (at ≡ last → ⊥) → p < last
          before_last p is differs = elim (cases_eq at last) [ inl same ↦ absurd (differs same) | inr apart ↦ omega (arith, is, before, is_last, apart) ]

          less_of : (p q : ℕ) → q ≡ p → p < met → (p ≡ last → ⊥) → q < last
          less_of p q is first not_end = elim (cases_eq p last) [ inl same ↦ absurd (not_end same) | inr apart ↦ omega (arith, is, first, is_last, apart) ]

pub not_forgotten : (order position : List ℕ) (met node at n : ℕ) → IsValid order position met → node < length order → at ≡ get_or position node 0 → met ≤ at → lists (take met order) n ≡ (lists (take met order) n && not (eqb n node))
not_forgotten order position met node at n placed below is_at after = go (eqb n node) refl (lists (take met order) n) refl where
  absent : lists (take met order) node ≡ false
  absent = sym (has_mark order position met node placed below) ∙ le-ltb (get_or position node 0) met (omega (arith, is_at, after))

  go : (same : Bool) → eqb n node ≡ same → (l : Bool) → lists (take met order) n ≡ l → l ≡ (l && not same)
  go true is l at = sym at ∙ ap (lists (take met order)) (eqb-true n node is) ∙ absent ∙ sym (none l) where
    none : (l : Bool) → (l && false) ≡ false
    none true = refl
    none false = refl
  go false is true at = refl
  go false is false at = refl
