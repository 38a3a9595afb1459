use Rattle.std.proofs.Common.{◌≡◌, ℕ, None, take}
use Rattle.asset_seats.specs.Seated.{Seated, seat}
use Rattle.asset_names.specs.Sets.{HasNoDouble}
use Rattle.slab.specs.Slab.{slab_len}
use Rattle.asset_records.specs.Listed.{lists_in, IsTied}
use Rattle.asset_names.specs.Steps.{objects_of}
use Rattle.asset_objects.specs.Placed.{IsOpened}
use Rattle.asset_objects.proofs.placed.place_all.Given as goal

-- the pairs so far are placed, and they are of different objects
abbrev pub invariant-pairs : goal.invariant-pairs
invariant-pairs l = record {
  placed : IsOpened (take l.x-index l.opening) l.placed.objects.keys l.placed.values.items (lists_in l.placed.records);
  len : slab_len l.placed.records.items ≡ 0;
  tied : (seats : Seated) → ((c : ℕ) → seat seats c ≡ None) → IsTied l.placed.records seats;
  different : HasNoDouble (objects_of (take l.x-index l.opening));
}
