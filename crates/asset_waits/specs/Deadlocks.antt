-- Cycles of waits.
use Rattle.std.specs.Prelude.{ℕ, nat_eq, List, map, flat_map, length, position, slice_index, unwrap_or, Option}
use Rattle.std.specs.List.{range_with_len}
use Rattle.asset_names.specs.Arrows.{Arrow}
use Rattle.asset_names.specs.declared.steps.Step.{Step}
use Rattle.asset_core.specs.Pending.{Pending}
use Rattle.asset_cycles.specs.Cyclic.{cycle_labels}
use Rattle.asset_waits.specs.Waiting.{live_names, waits_for}

-- the place of a name among the live ones, from 0; each that somebody waits for has one
unfoldable pub place_of : List ℕ → ℕ → ℕ
place_of names u = unwrap_or (position (nat_eq u) names) 0

-- an arrow from a place to the place of a name
unfoldable pub arrow_to : List ℕ → ℕ → ℕ → Arrow
arrow_to names from u = (from, place_of names u)

-- the arrows from a place to the places of those for whom the transaction there waits
unfoldable pub arrows_from : List Step → List Pending → List ℕ → ℕ → List Arrow
arrows_from steps pending names from = map (arrow_to names from) (waits_for steps pending (slice_index names from))

-- the arrows from the first places
unfoldable pub arrows_before : List Step → List Pending → List ℕ → ℕ → List Arrow
arrows_before steps pending names count = flat_map (arrows_from steps pending names) (range_with_len 0 count)

-- an arrow for each wait, between the places of the two among the live ones
unfoldable pub wait_arrows : List Step → List Pending → List Arrow
wait_arrows steps pending = arrows_before steps pending (live_names steps) (length (live_names steps))

-- for the place of each live transaction, the least place that is on one cycle of waits with it, if there is one
abbrev pub deadlock_labels : List Step → List Pending → List (Option ℕ)
deadlock_labels steps pending = cycle_labels (wait_arrows steps pending) (length (live_names steps))
