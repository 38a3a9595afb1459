-- Nodes on one cycle, and their labels.
use Rattle.std.proofs.Common.{◌≡◌, ℕ, ◌+◌, ◌<◌, Bool, true, false, cond, eqb, ◌&&◌, List, length, get_or, Option, Some, None, refl, sym, ap, ◌∙◌, arith, inl, inr}
use Rattle.std.specs.List.{list_any}
use Rattle.std.specs.Option.{option_or}
use Rattle.std.proofs.lemmas.Bool.{and_from, and_parts, true≢false, false_from_ne_true, cases_lt}
use Rattle.std.proofs.lemmas.List.FromFn.{fill_by_all, get_or-map-range_with_len, length-map-range_with_len}
use Rattle.std.proofs.lemmas.List.{get_or_past}
use Rattle.asset_names.specs.Arrows.{Arrow, linked, lists}
use Rattle.asset_names.proofs.Common.{both_follow}
use Rattle.asset_cycles.specs.Cyclic.{turned, reaches, on_one_cycle, label_below, cycle_labels}
use Rattle.asset_marks.proofs.KeyedLemmas.{linked_turned}
use Rattle.asset_cycles.proofs.ReachLemmas.{reach_linked, reach_on, reach_behind, reach_trans}
use Rattle.asset_cycles.proofs.LeastLemmas.{IsLeast, find_more, none_passes, found_least, least_found}

-- ---- being on one cycle
pub cycle_sym : (arrows : List Arrow) (a b : ℕ) → on_one_cycle arrows a b ≡ on_one_cycle arrows b a
unfolding on_one_cycle
cycle_sym arrows a b = swap (reaches arrows a b) (reaches arrows b a) where
  swap : (p q : Bool) → (p && q) ≡ (q && p)
  swap true true = refl
  swap true false = refl
  swap false true = refl
  swap false false = refl

pub cycle_trans : (arrows : List Arrow) (a b c : ℕ) → on_one_cycle arrows a b ≡ true → on_one_cycle arrows b c ≡ true → on_one_cycle arrows a c ≡ true
unfolding on_one_cycle
cycle_trans arrows a b c g h =
    let first = and_parts (reaches arrows a b) (reaches arrows b a) g in
    let second = and_parts (reaches arrows b c) (reaches arrows c b) h in
    and_from _ _ (reach_trans arrows a b c first.0 second.0) (reach_trans arrows c b a second.1 first.1)

-- ---- labels
pub label_more : (arrows : List Arrow) (i n : ℕ) → label_below arrows (i + 1) n ≡ option_or (label_below arrows i n) (cond (on_one_cycle arrows n i) (Some i) None)
unfolding label_below
label_more arrows i n = find_more (on_one_cycle arrows n) i

pub label_none : (arrows : List Arrow) (bound n : ℕ) → label_below arrows bound n ≡ None → (k : ℕ) → k < bound → on_one_cycle arrows n k ≡ false
unfolding label_below
label_none arrows bound n none = none_passes (on_one_cycle arrows n) bound none

pub label_least : (arrows : List Arrow) (bound n label : ℕ) → label_below arrows bound n ≡ Some label → IsLeast (on_one_cycle arrows n) bound label
unfolding label_below
label_least arrows bound n label is = found_least (on_one_cycle arrows n) bound label is

-- a node that has a label already adds none
pub labelled_before : (arrows : List Arrow) (i n label : ℕ) → label_below arrows i i ≡ Some label → label_below arrows (i + 1) n ≡ label_below arrows i n
labelled_before arrows i n label has = label_more arrows i n ∙ go (label_below arrows i n) refl (on_one_cycle arrows n i) refl where
  go : (before : Option ℕ) → label_below arrows i n ≡ before → (here : Bool) → on_one_cycle arrows n i ≡ here → option_or before (cond here (Some i) None) ≡ before
  go (Some m) was here is = refl
  go None was false is = refl
  go None was true is =
      let least = label_least arrows i i label has in
      absurd (true≢false (sym (cycle_trans arrows n i label is least.passes) ∙ label_none arrows i n was label least.below))

-- a node without a label gives its own number to those on one cycle with it
pub labelled_here : (arrows : List Arrow) (i n : ℕ) → label_below arrows i i ≡ None → label_below arrows (i + 1) n ≡ cond (on_one_cycle arrows i n) (Some i) (label_below arrows i n)
labelled_here arrows i n none = label_more arrows i n ∙ go (label_below arrows i n) refl (on_one_cycle arrows n i) refl ∙ ap (λ b. cond b (Some i) (label_below arrows i n)) (cycle_sym arrows n i) where
  go : (before : Option ℕ) → label_below arrows i n ≡ before → (here : Bool) → on_one_cycle arrows n i ≡ here → option_or before (cond here (Some i) None) ≡ cond here (Some i) before
  go None was true is = refl
  go None was false is = refl
  go (Some m) was false is = refl
  go (Some m) was true is =
      let least = label_least arrows i n m was in
      absurd (true≢false (sym (cycle_trans arrows i n m (cycle_sym arrows i n ∙ is) least.passes) ∙ label_none arrows i i none m least.below))

-- ---- what two searches meet
-- a node reaches itself if an arrow leads from it to one that the search backward met
pub met_round : (arrows back : List Arrow) (behind : List ℕ) (node : ℕ) → back ≡ turned arrows → ((n : ℕ) → lists behind n ≡ linked back node n) → list_any (λ (arrow : Arrow). eqb arrow.0 node && lists behind arrow.1) arrows ≡ reaches arrows node node
unfolding reaches
met_round arrows back behind node is met = λ m. list_any (λ (arrow : Arrow). eqb arrow.0 node && (met arrow.1 ∙ ap (λ l. linked l node arrow.1) is ∙ linked_turned arrows arrow.1 node) m) arrows

-- what both searches met is on one cycle with a node that reaches itself
pub met_both : (arrows back : List Arrow) (node n : ℕ) → back ≡ turned arrows → reaches arrows node node ≡ true → (linked arrows node n && linked back node n) ≡ on_one_cycle arrows node n
unfolding on_one_cycle
met_both arrows back node n is round = ap (λ b. linked arrows node n && b) (ap (λ l. linked l node n) is ∙ linked_turned arrows n node) ∙ both_follow _ _
    (λ h.
    let ways = and_parts (linked arrows node n) (linked arrows n node) h in
    and_from _ _ (reach_on arrows node node n round ways.0) (reach_behind arrows n node node ways.1 round))
    (λ h.
    let ways = and_parts (reaches arrows node n) (reaches arrows n node) h in
    and_from _ _ (reach_linked arrows node n ways.0) (reach_linked arrows n node ways.1))

-- a node that does not reach itself is on no cycle
pub met_neither : (arrows : List Arrow) (node n : ℕ) → reaches arrows node node ≡ false → on_one_cycle arrows node n ≡ false
unfolding on_one_cycle
met_neither arrows node n none = false_from_ne_true _ (λ h.
    let parts = and_parts (reaches arrows node n) (reaches arrows n node) h in
    true≢false (sym (reach_trans arrows node n node parts.0 parts.1) ∙ none))

-- ---- the labels of all nodes
pub first_labels : (arrows : List Arrow) (n : ℕ) → label_below arrows 0 n ≡ None
unfolding label_below
first_labels arrows n = refl

pub all_labels : (arrows : List Arrow) (count : ℕ) (labels : List (Option ℕ)) → length labels ≡ count → ((n : ℕ) → n < count → get_or labels n None ≡ label_below arrows count n) → labels ≡ cycle_labels arrows count
unfolding cycle_labels
all_labels arrows count labels long least = fill_by_all (label_below arrows count) labels count None long least

pub label_found : (arrows : List Arrow) (bound n label : ℕ) → IsLeast (on_one_cycle arrows n) bound label → label_below arrows bound n ≡ Some label
unfolding label_below
label_found arrows bound n label least = least_found (on_one_cycle arrows n) bound label least

-- ---- one label of all
pub label_at : (arrows : List Arrow) (count n : ℕ) → n < count → get_or (cycle_labels arrows count) n None ≡ label_below arrows count n
unfolding cycle_labels
label_at arrows count n below = get_or-map-range_with_len (label_below arrows count) 0 count n n None below (omega arith)

pub labels_long : (arrows : List Arrow) (count : ℕ) → length (cycle_labels arrows count) ≡ count
unfolding cycle_labels
labels_long arrows count = length-map-range_with_len (label_below arrows count) 0 count

-- a node with a label is one of those that there are
pub label_within : (arrows : List Arrow) (count n label : ℕ) → get_or (cycle_labels arrows count) n None ≡ Some label → n < count
label_within arrows count n label is = elim (cases_lt n count) [
  | inl below ↦ below
  | inr past ↦ cc (sym is ∙ get_or_past (cycle_labels arrows count) n None (omega (arith, labels_long arrows count, past)))
]

-- each label is a node
pub labels_below : (arrows : List Arrow) (count n label : ℕ) → get_or (cycle_labels arrows count) n None ≡ Some label → label < length (cycle_labels arrows count)
labels_below arrows count n label is =
    let below = label_within arrows count n label is in
    let least = label_least arrows count n label (sym (label_at arrows count n below) ∙ is) in
    omega (arith, labels_long arrows count, least.below)

-- a label is its own label
pub label_own : (arrows : List Arrow) (count n label : ℕ) → get_or (cycle_labels arrows count) n None ≡ Some label → get_or (cycle_labels arrows count) label None ≡ Some label
label_own arrows count n label is =
    let below = label_within arrows count n label is in
    let least = label_least arrows count n label (sym (label_at arrows count n below) ∙ is) in
    let back = cycle_sym arrows label n ∙ least.passes in
    label_at arrows count label least.below ∙ label_found arrows count label label (record {
      below = least.below;
      passes = cycle_trans arrows label n label back least.passes;
      least = λ j earlier. false_from_ne_true (on_one_cycle arrows label j) (λ on. true≢false (sym (cycle_trans arrows n label j least.passes on) ∙ least.least j earlier));
    })
