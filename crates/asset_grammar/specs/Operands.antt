-- The shapes of operands.
use Rattle.std.specs.Prelude.{ℕ, List, [], ◌∷◌, Option, None, Some, option_and_then, option_map, ℤ}
use Rattle.asset_names.specs.declared.names.Txn.{Txn}
use Rattle.asset_names.specs.declared.names.Ob.{Ob}
use Rattle.asset_grammar.specs.Numbers.{number_of, value_of}

-- the transaction of a number
abbrev pub txn : ℕ → Txn
txn n = record { 0 = n }

-- the object of a number
abbrev pub ob : ℕ → Ob
ob n = record { 0 = n }

-- the transaction that a word names
unfoldable pub txn_of : List ℕ → Option Txn
txn_of word = option_map txn (number_of word)

-- the object that a word names
unfoldable pub ob_of : List ℕ → Option Ob
ob_of word = option_map ob (number_of word)

-- both of two, if they are there
unfoldable pub both : {A B : Type 0} → Option A → Option B → Option (A × B)
both a b = option_and_then (λ x. option_map (λ y. (x, y)) b) a

-- all of three, if they are there
unfoldable pub all_three : {A B C : Type 0} → Option A → Option B → Option C → Option (A × B × C)
all_three a b c = option_and_then (λ x. option_and_then (λ y. option_map (λ z. (x, y, z)) c) b) a

-- one transaction
unfoldable pub one_txn : List (List ℕ) → Option Txn
one_txn (t ∷ []) = txn_of t
one_txn _ = None

-- one object
unfoldable pub one_object : List (List ℕ) → Option Ob
one_object (x ∷ []) = ob_of x
one_object _ = None

-- a transaction, and perhaps its parent
unfoldable pub txn_and_parent : List (List ℕ) → Option (Txn × Option Txn)
txn_and_parent (t ∷ []) = both (txn_of t) (Some None)
txn_and_parent (t ∷ parent ∷ []) = both (txn_of t) (option_map Some (txn_of parent))
txn_and_parent _ = None

-- a transaction and an object
unfoldable pub txn_and_object : List (List ℕ) → Option (Txn × Ob)
txn_and_object (t ∷ x ∷ []) = both (txn_of t) (ob_of x)
txn_and_object _ = None

-- an object and a value
unfoldable pub object_and_value : List (List ℕ) → Option (Ob × ℤ)
object_and_value (x ∷ v ∷ []) = both (ob_of x) (value_of v)
object_and_value _ = None

-- a transaction, an object and a value
unfoldable pub txn_object_and_value : List (List ℕ) → Option (Txn × Ob × ℤ)
txn_object_and_value (t ∷ x ∷ v ∷ []) = all_three (txn_of t) (ob_of x) (value_of v)
txn_object_and_value _ = None
