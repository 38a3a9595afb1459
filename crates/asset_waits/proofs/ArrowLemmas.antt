-- Arrows of waits are between places.
use Rattle.std.proofs.Common.{◌≡◌, ℕ, zero, suc, ◌+◌, ◌<◌, ◌≤◌, Bool, true, false, cond, ltb, List, length, refl, subst, sym, arith}
use Rattle.std.specs.Prelude.{nat_eq, Some, None, unwrap_or, slice_index, flat_map}
use Rattle.std.specs.List.{position_or_len, range_with_len}
use Rattle.std.proofs.lemmas.Bool.{ltb-true}
use Rattle.std.proofs.lemmas.List.Elements.{All-nil, All-append, All-map}
use Rattle.asset_names.specs.Arrows.{Arrow}
use Rattle.asset_names.specs.declared.steps.Step.{Step}
use Rattle.asset_core.specs.Pending.{Pending}
use Rattle.asset_cycles.specs.Cyclic.{AreBelow}
use Rattle.asset_waits.specs.Waiting.{waits_for}
use Rattle.asset_waits.specs.Deadlocks.{place_of, arrow_to, arrows_from, arrows_before}
use Rattle.asset_names.proofs.MoreLemmas.{numbers_more}

-- a place is below their number, if there are names
pub place_below : (names : List ℕ) (u : ℕ) → 0 < length names → place_of names u < length names
unfolding place_of
place_below names u some = go (ltb (position_or_len (nat_eq u) names) (length names)) refl where
  go : (there : Bool) → ltb (position_or_len (nat_eq u) names) (length names) ≡ there → unwrap_or (cond there (Some (position_or_len (nat_eq u) names)) None) 0 < length names
  go true is = ltb-true _ _ is
  go false is = some

-- the arrows from a place are between places
from_below : (steps : List Step) (pending : List Pending) (names : List ℕ) (from : ℕ) → from < length names → AreBelow (arrows_from steps pending names from) (length names)
unfolding arrows_from arrow_to
from_below steps pending names from below =
    All-map (λ (arrow : Arrow). (arrow.0 < length names) × (arrow.1 < length names)) (arrow_to names from) (waits_for steps pending (slice_index names from))
    (λ k d there. (below, place_below names _ (omega (arith, below))))

-- and so are those from the first places
pub before_below : (steps : List Step) (pending : List Pending) (names : List ℕ) (count : ℕ) → count ≤ length names → AreBelow (arrows_before steps pending names count) (length names)
unfolding arrows_before
before_below steps pending names zero le = All-nil (λ (arrow : Arrow). (arrow.0 < length names) × (arrow.1 < length names))
before_below steps pending names (suc n) le =
    let next : n + 1 ≡ suc n = omega arith in
    subst (λ (m : ℕ). AreBelow (flat_map (arrows_from steps pending names) (range_with_len 0 m)) (length names)) next
    (subst (λ (l : List Arrow). AreBelow l (length names)) (sym (numbers_more (arrows_from steps pending names) n))
    (All-append (λ (arrow : Arrow). (arrow.0 < length names) × (arrow.1 < length names)) (flat_map (arrows_from steps pending names) (range_with_len 0 n)) (arrows_from steps pending names n)
    (before_below steps pending names n (omega (arith, le)))
    (from_below steps pending names n (omega (arith, le)))))
