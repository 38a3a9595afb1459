-- How steps and objects are printed: the lines of a script that say them, without their line feeds.
use Rattle.std.specs.Prelude.{ℕ, ℤ, ◌<◌, ◌^◌, cond, List, [], ◌∷◌, ◌++◌, All as Each, flat_map, Option, Some, None, codes}
use Rattle.std.specs.Fmt.{decimal, signed_decimal}
use Rattle.std.specs.List.{join_with_byte}
use Rattle.asset_names.specs.declared.names.Txn.{Txn}
use Rattle.asset_names.specs.declared.names.Ob.{Ob}
use Rattle.asset_names.specs.declared.sets.ObSet.{ObSet}
use Rattle.asset_names.specs.declared.sets.ObSet.TheVariants.{All, Listed}
use Rattle.asset_names.specs.declared.steps.Kind.{Kind}
use Rattle.asset_names.specs.declared.steps.Kind.TheVariants.{Cd, Ad, Gc}
use Rattle.asset_names.specs.declared.steps.Step.{Step}
use Rattle.asset_names.specs.declared.steps.Step.TheVariants.{Initiate, Begin, Read, Write, Add, Complete, Permit, PermitAny, Delegate, Depend, Commit, Abort, WaitFor}
use Rattle.asset_names.specs.OpSets.{OpSet}

-- objects have numbers below 2 ^ 64
unfoldable pub AreNumbers : List Ob → Type 0
AreNumbers objects = Each (λ (x : Ob). x.0 < 2 ^ 64) objects

-- the numbers of the objects, each after a comma
unfoldable pub more_text : List Ob → List ℕ
more_text objects = flat_map (λ (x : Ob). 44 ∷ decimal x.0) objects

-- the numbers of the objects, with commas between them
unfoldable pub list_text : List Ob → List ℕ
list_text [] = []
list_text (x ∷ objects) = decimal x.0 ++ more_text objects

-- a set of objects: `all`, or the numbers of its list, in the order of the list
unfoldable pub set_text : ObSet → List ℕ
set_text All = codes "all"
set_text (Listed objects) = list_text objects

-- a set of operations: a letter for each of them
unfoldable pub ops_text : OpSet → List ℕ
ops_text ops = cond ops.read (codes "r") [] ++ cond ops.write (codes "w") [] ++ cond ops.add (codes "a") []

-- a kind of dependency
unfoldable pub kind_text : Kind → List ℕ
kind_text Cd = codes "cd"
kind_text Ad = codes "ad"
kind_text Gc = codes "gc"

-- the parent of a transaction, if it has one
unfoldable pub parent_words : Option Txn → List (List ℕ)
parent_words None = []
parent_words (Some parent) = decimal parent.0 ∷ []

-- the words of a step
unfoldable pub step_words : Step → List (List ℕ)
step_words (Initiate t parent) = codes "initiate" ∷ decimal t.0 ∷ parent_words parent
step_words (Begin t) = codes "begin" ∷ decimal t.0 ∷ []
step_words (Read t x) = codes "read" ∷ decimal t.0 ∷ decimal x.0 ∷ []
step_words (Write t x v) = codes "write" ∷ decimal t.0 ∷ decimal x.0 ∷ signed_decimal v ∷ []
step_words (Add t x d) = codes "add" ∷ decimal t.0 ∷ decimal x.0 ∷ signed_decimal d ∷ []
step_words (Complete t) = codes "complete" ∷ decimal t.0 ∷ []
step_words (Permit giver taker obs ops) = codes "permit" ∷ decimal giver.0 ∷ decimal taker.0 ∷ ops_text ops ∷ set_text obs ∷ []
step_words (PermitAny giver obs ops) = codes "permit" ∷ decimal giver.0 ∷ codes "any" ∷ ops_text ops ∷ set_text (Listed obs) ∷ []
step_words (Delegate giver taker obs) = codes "delegate" ∷ decimal giver.0 ∷ decimal taker.0 ∷ set_text obs ∷ []
step_words (Depend kind a b) = codes "depend" ∷ kind_text kind ∷ decimal a.0 ∷ decimal b.0 ∷ []
step_words (Commit t) = codes "commit" ∷ decimal t.0 ∷ []
step_words (Abort t) = codes "abort" ∷ decimal t.0 ∷ []
step_words (WaitFor t) = codes "wait" ∷ decimal t.0 ∷ []

-- the line of a step
unfoldable pub step_text : Step → List ℕ
step_text step = join_with_byte 32 (step_words step)

-- the line of an object with its value
unfoldable pub object_text : Ob → ℤ → List ℕ
object_text x v = join_with_byte 32 (codes "object" ∷ decimal x.0 ∷ signed_decimal v ∷ [])
