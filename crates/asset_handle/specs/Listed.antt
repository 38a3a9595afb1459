-- The set of objects that a plain step lists.
use Rattle.std.specs.Prelude.{ℕ, ◌==◌, ◌&&◌, Bool, not, cond, nat_lt, nat_le, List, length, map, take, Option, None, Some}
use Rattle.std.specs.List.{list_any}
use Rattle.asset_names.specs.declared.names.Ob.{Ob}
use Rattle.asset_names.specs.declared.sets.ObSet.{ObSet}
use Rattle.asset_names.specs.declared.sets.ObSet.TheVariants.{All, Listed}
use Rattle.asset_names.specs.Sets.{numbers, twice, rising}

-- the objects of these numbers
unfoldable pub objects_named : List ℕ → List Ob
objects_named names = map (λ n. record { 0 = n }) names

-- whether the objects make a list: 1 to 16 of them, none of which occurs twice
unfoldable pub makes_list : List Ob → Bool
makes_list objects = nat_lt 0 (length objects) && nat_le (length objects) 16 && not (list_any (λ (x : Ob). twice (numbers objects) x.0) objects)

-- the set of the objects, in rising order, if they make a list
unfoldable pub set_of_listed : List Ob → Option ObSet
set_of_listed objects = cond (makes_list objects) (Some (Listed (rising objects))) None

-- the set that a count and the slots say: all objects for the greatest count; for a count up to 16 the objects in as many first
-- slots, if they make a list; and otherwise none
unfoldable pub set_in : ℕ → List ℕ → Option ObSet
set_in count slots = cond (count == 18446744073709551615) (Some All) (cond (nat_le count 16) (set_of_listed (objects_named (take count slots))) None)
