-- The operands of a dependency.
use Rattle.std.specs.Prelude.{ℕ, List, [], ◌∷◌, Option, None, Some, cond, codes}
use Rattle.std.specs.Str.{bytes_eq}
use Rattle.asset_names.specs.declared.names.Txn.{Txn}
use Rattle.asset_names.specs.declared.steps.Kind.{Kind}
use Rattle.asset_names.specs.declared.steps.Kind.TheVariants.{Cd, Ad, Gc}
use Rattle.asset_grammar.specs.Operands.{txn_of, both}

-- the kind of dependency that a word names
unfoldable pub kind_of : List ℕ → Option Kind
kind_of word = cond (bytes_eq word (codes "cd")) (Some Cd) (cond (bytes_eq word (codes "ad")) (Some Ad) (cond (bytes_eq word (codes "gc")) (Some Gc) None))

-- a kind of dependency and two transactions
unfoldable pub kind_and_txns : List (List ℕ) → Option (Kind × (Txn × Txn))
kind_and_txns (kind ∷ a ∷ b ∷ []) = both (kind_of kind) (both (txn_of a) (txn_of b))
kind_and_txns _ = None
