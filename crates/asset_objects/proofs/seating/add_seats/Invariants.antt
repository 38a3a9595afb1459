use Rattle.std.proofs.Common.{◌≡◌, ℕ, ◌<◌, ◌≤◌, ◌+◌, ◌-◌, length}
use Rattle.slab.specs.Slab.{slab_len}
use Rattle.asset_records.specs.Listed.{IsNoMore}
use Rattle.asset_objects.specs.Placed.{objects_in, IsTied, HasRoom}
use Rattle.asset_objects.proofs.seating.add_seats.Given as goal

-- there may be more seats, each with its column, and nothing that callers see has changed
abbrev pub invariant-seats : goal.invariant-seats
invariant-seats l = record {
  tied : IsTied l.table l.seats;
  columns : (c : ℕ) → c < length l.seats.slots → HasRoom l.table c;
  shown : objects_in l.table ≡ objects_in l.initial.table;
  few : IsNoMore l.initial.table.records l.table.records;
  slots : length l.initial.seats.slots ≤ length l.seats.slots;
}

abbrev pub decreases-seats : goal.decreases-seats
decreases-seats l = (slab_len l.initial.table.records.items + 2) - length l.seats.slots
