-- Labels in the words of a textbook.
use Rattle.std.proofs.Common.{◌≡◌, ℕ, ◌<◌, true, List, Option, Some, None, refl, sym, ◌∙◌}
use Rattle.std.proofs.lemmas.Bool.{and_from, and_parts, true≢false, false_from_ne_true}
use Rattle.asset_names.specs.Arrows.{Arrow}
use Rattle.asset_names.proofs.Arrows.{chain_from_linked, linked_from_chain}
use Rattle.asset_names.proofs.PermitLemmas.{has_listed}
use Rattle.asset_cycles.specs.Cyclic.{reaches, on_one_cycle, label_below}
use Rattle.asset_cycles.specs.Textbook.{Reaches, OnOneCycle}
use Rattle.asset_cycles.proofs.LeavingLemmas.{contains_arrow}
use Rattle.asset_cycles.proofs.ReachLemmas.{reaches_by, reach_parts}
use Rattle.asset_cycles.proofs.LeastLemmas.{IsLeast}
use Rattle.asset_cycles.proofs.CycleLemmas.{cycle_sym, cycle_trans, label_none, label_least, label_found}

-- ---- the two relations are one
pub reach_by_chain : (arrows : List Arrow) (a b : ℕ) → reaches arrows a b ≡ true → Reaches arrows a b
reach_by_chain arrows a b h =
    let parts = reach_parts arrows a b h in
    (parts.0, contains_arrow arrows a parts.0 parts.1, chain_from_linked arrows parts.0 b parts.2)

pub chain_reaches : (arrows : List Arrow) (a b : ℕ) → Reaches arrows a b → reaches arrows a b ≡ true
chain_reaches arrows a b h = reaches_by arrows a h.0 b (has_listed arrows a h.0 h.1) (linked_from_chain arrows h.0 b h.2)

pub cycle_by_chains : (arrows : List Arrow) (a b : ℕ) → on_one_cycle arrows a b ≡ true → OnOneCycle arrows a b
unfolding on_one_cycle
cycle_by_chains arrows a b h =
    let parts = and_parts (reaches arrows a b) (reaches arrows b a) h in
    (reach_by_chain arrows a b parts.0, reach_by_chain arrows b a parts.1)

pub chains_cycle : (arrows : List Arrow) (a b : ℕ) → OnOneCycle arrows a b → on_one_cycle arrows a b ≡ true
unfolding on_one_cycle
chains_cycle arrows a b h = and_from (reaches arrows a b) (reaches arrows b a) (chain_reaches arrows a b h.0) (chain_reaches arrows b a h.1)

-- ---- labels are cycles
-- a node with a label that two have is on one cycle with both
pub same_label : (arrows : List Arrow) (count u v : ℕ) → label_below arrows count u ≡ label_below arrows count v → (label_below arrows count u ≡ None → ⊥) → on_one_cycle arrows u v ≡ true
same_label arrows count u v same some = go (label_below arrows count u) refl where
  go : (label : Option ℕ) → label_below arrows count u ≡ label → on_one_cycle arrows u v ≡ true
  go None is = absurd (some is)
  go (Some l) is =
      let here = label_least arrows count u l is in
      let there = label_least arrows count v l (sym same ∙ is) in
      cycle_trans arrows u l v here.passes (cycle_sym arrows l v ∙ there.passes)

pub one_label : (arrows : List Arrow) (count u v : ℕ) → v < count → on_one_cycle arrows u v ≡ true → (label_below arrows count u ≡ label_below arrows count v) × (label_below arrows count u ≡ None → ⊥)
one_label arrows count u v below h = go (label_below arrows count u) refl where
  go : (label : Option ℕ) → label_below arrows count u ≡ label → (label_below arrows count u ≡ label_below arrows count v) × (label_below arrows count u ≡ None → ⊥)
  go None is = absurd (true≢false (sym h ∙ label_none arrows count u is v below))
  go (Some l) is =
      let least = label_least arrows count u l is in
      let there : IsLeast (on_one_cycle arrows v) count l = record {
        below = least.below;
        passes = cycle_trans arrows v u l (cycle_sym arrows v u ∙ h) least.passes;
        least = λ j earlier. false_from_ne_true (on_one_cycle arrows v j) (λ on. true≢false (sym (cycle_trans arrows u v j h on) ∙ least.least j earlier));
      } in
      (is ∙ sym (label_found arrows count v l there), λ none. cc (sym is ∙ none))

-- a node has no label exactly if it does not reach itself
pub none_reaches : (arrows : List Arrow) (count u : ℕ) → u < count → label_below arrows count u ≡ None → reaches arrows u u ≡ true → ⊥
unfolding on_one_cycle
none_reaches arrows count u below none h = true≢false (sym (and_from (reaches arrows u u) (reaches arrows u u) h h) ∙ label_none arrows count u none u below)

pub reaches_some : (arrows : List Arrow) (count u : ℕ) → (reaches arrows u u ≡ true → ⊥) → label_below arrows count u ≡ None
unfolding on_one_cycle
reaches_some arrows count u never = go (label_below arrows count u) refl where
  go : (label : Option ℕ) → label_below arrows count u ≡ label → label ≡ None
  go None is = refl
  go (Some l) is =
      let least = label_least arrows count u l is in
      let around = cycle_trans arrows u l u least.passes (cycle_sym arrows l u ∙ least.passes) in
      absurd (never (and_parts (reaches arrows u u) (reaches arrows u u) around).0)
