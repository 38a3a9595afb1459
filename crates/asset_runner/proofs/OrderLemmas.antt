-- A row of jobs that stand in order.
use Rattle.std.proofs.Common.{◌≡◌, ◌<◌, ◌+◌, ℕ, List, Some, arith}
use Rattle.std.specs.Prelude.{slice_get}
use Rattle.asset_runner.specs.declared.arrival.Arrival.{Arrival}

-- one more job that stands in its place
pub in_order_more : {X : Type 0} {B : X → Type 0} (row : List (Arrival X B)) (place : ℕ) (here : Arrival X B) → ((i : ℕ) (a : Arrival X B) → i < place → slice_get row i ≡ Some a → a.place ≡ i)
    → slice_get row place ≡ Some here → here.place ≡ place → (i : ℕ) (a : Arrival X B) → i < place + 1 → slice_get row i ≡ Some a → a.place ≡ i
in_order_more row place here before at stands i a below there = grind (arith, before i a, at, stands, below, there)
