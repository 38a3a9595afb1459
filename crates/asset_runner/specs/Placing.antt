-- How what comes back in any order is put into its places.
use Rattle.std.specs.Prelude.{ℕ, ◌+◌, zero, suc, List, [], ◌∷◌, Option, Some, None, slice_set}
use Rattle.asset_queue.specs.Once.{Ticket}

-- the tickets of jobs of these names, from this place on
abbrev pub numbered : ℕ → List ℕ → List Ticket
numbered place [] = []
numbered place (name ∷ names) = (place, name) ∷ numbered (place + 1) names

module _ {A : Type 0} where
  -- each is put into its place, the last one first
  abbrev pub placed : (A → ℕ) → List (Option A) → List A → List (Option A)
  placed place slots [] = slots
  placed place slots (a ∷ rest) = slice_set (placed place slots rest) (place a) (Some a)

  -- what stands in the places, in order
  abbrev pub somes : List (Option A) → List A
  somes [] = []
  somes (None ∷ slots) = somes slots
  somes (Some a ∷ slots) = a ∷ somes slots

  -- so many empty places
  abbrev pub nones : ℕ → List (Option A)
  nones zero = []
  nones (suc n) = None ∷ nones n
