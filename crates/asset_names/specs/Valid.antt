-- A valid list of objects has them in rising order, in its first slots.
use Rattle.std.specs.Prelude.{◌≡◌, ℕ, ◌<◌, ◌≤◌, ◌-◌, List, ◌++◌, length, take, drop, replicate}
use Rattle.std.specs.List.Sorted.{IsStrictlyIncreasing}
use Rattle.std.proofs.Common.{arith}
use Rattle.std.proofs.lemmas.List.{length-take-le, take-append-drop}
use Rattle.asset_names.specs.declared.names.Ob.{Ob}
use Rattle.asset_names.specs.Sets.{numbers, no_object_name}

-- of 16 slots the first `count`, at least one, have objects in strictly rising order, and the others are empty
pub record IsValid (objects : List Ob) (count : ℕ) : Type 0 where
  pub some : 0 < count
  pub few : count ≤ 16
  pub slots : length objects ≡ 16
  pub rising : IsStrictlyIncreasing (numbers (take count objects))
  pub rest : drop count objects ≡ replicate (16 - count) no_object_name

-- the list tells its count and its slots
pub count_back : (objects : List Ob) (count : ℕ) → IsValid objects count → length (take count objects) ≡ count
count_back objects count kept = length-take-le count objects (omega (arith, kept.few, kept.slots))

pub objects_back : (objects : List Ob) (count : ℕ) → IsValid objects count → take count objects ++ replicate (16 - length (take count objects)) no_object_name ≡ objects
objects_back objects count kept = rw (count_back objects count kept, ← kept.rest) (take-append-drop count objects)
