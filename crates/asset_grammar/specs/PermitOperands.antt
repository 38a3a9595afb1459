-- The operands of a permit and of a delegation.
use Rattle.std.specs.Prelude.{ℕ, cond, List, [], ◌∷◌, Option, None, Some, option_map, codes}
use Rattle.std.specs.Str.{bytes_eq}
use Rattle.asset_names.specs.declared.names.Txn.{Txn}
use Rattle.asset_names.specs.declared.sets.ObSet.{ObSet}
use Rattle.asset_names.specs.declared.sets.ObSet.TheVariants.{All, Listed}
use Rattle.asset_names.specs.declared.steps.Step.{Step}
use Rattle.asset_names.specs.declared.steps.Step.TheVariants.{Permit, PermitAny}
use Rattle.asset_names.specs.OpSets.{OpSet}
use Rattle.asset_grammar.specs.Operands.{txn_of, both}
use Rattle.asset_grammar.specs.Sets.{ops_of, set_of}

-- anybody, as the taker of a permit: named by the word `any` alone, and then no transaction
unfoldable pub any_of : List ℕ → Option (Option Txn)
any_of word = cond (bytes_eq word (codes "any")) (Some None) None

-- the taker of a permit: anybody, or the transaction that a word names
unfoldable pub taker_of : List ℕ → Option (Option Txn)
taker_of word = cond (bytes_eq word (codes "any")) (Some None) (option_map Some (txn_of word))

-- a transaction, the taker of a permit, operations and a set of objects
unfoldable pub txn_taker_ops_and_set : List (List ℕ) → Option ((Txn × Option Txn) × (OpSet × ObSet))
txn_taker_ops_and_set (giver ∷ taker ∷ ops ∷ obs ∷ []) = both (both (txn_of giver) (taker_of taker)) (both (ops_of ops) (set_of obs))
txn_taker_ops_and_set _ = None

-- two transactions and a set of objects
unfoldable pub txns_and_set : List (List ℕ) → Option ((Txn × Txn) × ObSet)
txns_and_set (giver ∷ taker ∷ obs ∷ []) = both (both (txn_of giver) (txn_of taker)) (set_of obs)
txns_and_set _ = None

-- the permit with these operands: to a transaction, or to anybody on objects that are listed; to anybody on all objects is
-- none
unfoldable pub permit_step : Txn → Option Txn → OpSet → ObSet → Option Step
permit_step giver (Some taker) ops obs = Some (Permit giver taker obs ops)
permit_step giver None ops (Listed objects) = Some (PermitAny giver objects ops)
permit_step giver None ops All = None
