use Rattle.std.proofs.Common.{arith, refl}
use Rattle.asset_names.specs.Answers.{IsLegal}
use Rattle.asset_entries.specs.Stored.{entries_of, all_have_sets}
use Rattle.asset_entries.proofs.entries.Entries.with_room.Goals as goal

pub invariant_of-result : goal.invariant_of-result
unfolding IsLegal entries_of all_have_sets
invariant_of-result c =
    let taken = c.in_ok-with_capacity.ensures in
    let sets_room = c.in_ok-with_room.ensures in
    record {
      different = rw (c.in_ok-to_vec.ensures.items_if_clones_equal (λ x y same. λ i. (same.0 i, same.1 i))) c.requires.different;
      legal = rw taken.items tt;
      there = rw taken.items refl;
      fewer = rw (taken.items, sets_room.sets) (omega arith);
      within = rw taken.items (omega arith);
      taken = taken.capacity;
      taken_sets = omega (arith, sets_room.room);
    }
