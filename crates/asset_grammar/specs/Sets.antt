-- How sets of operations and of objects are written.
use Rattle.std.specs.Prelude.{ℕ, ◌&&◌, Bool, true, false, not, cond, nat_lt, nat_le, List, [], ◌∷◌, ◌++◌, length, Option, None, Some, option_and_then, option_map, codes}
use Rattle.std.specs.Str.{bytes_eq}
use Rattle.std.specs.List.{list_any}
use Rattle.asset_names.specs.declared.names.Ob.{Ob}
use Rattle.asset_names.specs.declared.sets.ObSet.{ObSet}
use Rattle.asset_names.specs.declared.sets.ObSet.TheVariants.{All, Listed}
use Rattle.asset_names.specs.Sets.{numbers, twice, rising}
use Rattle.asset_names.specs.OpSets.{OpSet, op_set}
use Rattle.asset_grammar.specs.Operands.{ob_of}
use Rattle.asset_grammar.specs.Words.{parts}

-- the operations that a word writes: Read, Write and Add by one letter each, in this order
unfoldable pub ops_of : List ℕ → Option OpSet
ops_of word =
    cond (bytes_eq word (codes "r")) (Some (op_set true false false))
    (cond (bytes_eq word (codes "w")) (Some (op_set false true false))
    (cond (bytes_eq word (codes "rw")) (Some (op_set true true false))
    (cond (bytes_eq word (codes "a")) (Some (op_set false false true))
    (cond (bytes_eq word (codes "ra")) (Some (op_set true false true))
    (cond (bytes_eq word (codes "wa")) (Some (op_set false true true))
    (cond (bytes_eq word (codes "rwa")) (Some (op_set true true true)) None))))))

-- one more object, if there is room for it among 16
unfoldable pub one_more_object : List Ob → Option Ob → Option (List Ob)
one_more_object objects x = cond (nat_lt (length objects) 16) (option_map (λ y. objects ++ y ∷ []) x) None

-- the objects that the parts name, after these: each names one, and there are at most 16 in all
unfoldable pub gathered : List Ob → List (List ℕ) → Option (List Ob)
gathered objects [] = Some objects
gathered objects (part ∷ rest) = option_and_then (λ more. gathered more rest) (one_more_object objects (ob_of part))

-- the objects whose numbers stand between the commas of a word, after these
abbrev pub gathered_of : List Ob → List ℕ → Option (List Ob)
gathered_of objects word = gathered objects (parts 44 word)

-- the set of a word that is `all`
unfoldable pub all_of : List ℕ → Option ObSet
all_of word = cond (bytes_eq word (codes "all")) (Some All) None

-- whether the objects make a list: 1 to 16 of them, none of which occurs twice
unfoldable pub is_list : List Ob → Bool
is_list objects = nat_lt 0 (length objects) && nat_le (length objects) 16 && not (list_any (λ (x : Ob). twice (numbers objects) x.0) objects)

-- the set of such objects, in rising order
unfoldable pub listed : List Ob → Option ObSet
listed objects = cond (is_list objects) (Some (Listed (rising objects))) None

-- the set of the objects whose numbers stand between the commas of a word, in any order
abbrev pub list_of : List ℕ → Option ObSet
list_of word = option_and_then listed (gathered_of [] word)

-- the set that a word writes: all objects, or those that it lists
unfoldable pub set_of : List ℕ → Option ObSet
set_of word = cond (bytes_eq word (codes "all")) (Some All) (list_of word)
