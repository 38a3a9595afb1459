-- How the sets of objects of the entries are stored: the objects that they list one behind the other, and where those of
-- each set are.
use Rattle.std.specs.Prelude.{ℕ, ◌+◌, ◌*◌, ◌≤◌, List, [], ◌∷◌, length, map, take, drop, Option, Some, None}
use Rattle.std.specs.List.{All as Each}
use Rattle.std.specs.List.Sorted.{IsStrictlyIncreasing}
use Rattle.asset_names.specs.declared.names.Ob.{Ob}
use Rattle.asset_names.specs.declared.sets.ObSet.{ObSet}
use Rattle.asset_names.specs.declared.sets.ObSet.TheVariants.{All, Listed}
use Rattle.asset_names.specs.Sets.{numbers}
use Rattle.asset_entries.specs.declared.stored_sets.Stretch.{Stretch}

-- the set of objects of an entry
pub record StoredSet : Type 0 where
  pub obs : ObSet

-- the sets in order, and for how many there is room in all
pub record Sets : Type 0 where
  pub sets : List StoredSet
  pub room : ℕ

-- a stored set; all objects if there is none, which no valid history has
unfoldable pub set_or_all : Option StoredSet → ObSet
set_or_all (Some stored) = stored.obs
set_or_all None = All

-- the set of these objects: every object if none is listed
unfoldable pub stored_set : List Ob → StoredSet
stored_set [] = record { obs = All }
stored_set (x ∷ xs) = record { obs = Listed (x ∷ xs) }

-- the objects of a stretch
unfoldable pub stretch_of : List Ob → Stretch → List Ob
stretch_of objects s = take s.count (drop s.start objects)

-- what callers see
unfoldable pub sets_of : List Ob → List Stretch → ℕ → Sets
sets_of objects stretches room = record { sets = map (λ (s : Stretch). stored_set (stretch_of objects s)) stretches; room = room }

-- a stretch is within the objects, and has at most 16 of them in rising order
pub record IsStretch (objects : List Ob) (s : Stretch) : Type 0 where
  pub within : s.start + s.count ≤ length objects
  pub few : s.count ≤ 16
  pub rising : IsStrictlyIncreasing (numbers (stretch_of objects s))

-- each set is a stretch; at most 16 objects a set are stored; and there is room for `room` sets with 16 objects each
pub record IsValid (objects : List Ob) (stretches : List Stretch) (room object_slots stretch_slots : ℕ) : Type 0 where
  pub each : Each (IsStretch objects) stretches
  pub used : length objects ≤ 16 * length stretches
  pub objects_room : 16 * room ≤ object_slots
  pub stretches_room : room ≤ stretch_slots
