-- Names that are inserted or told.
use Rattle.std.proofs.Common.{◌≡◌, ℕ, cond, eqb, List, [], ◌∷◌, ◌++◌, refl, ap, Some, None}
use Rattle.std.specs.Prelude.{Option}
use Rattle.std.specs.List.{list_any}
use Rattle.std.specs.Option.{option_map}
use Rattle.indexmap.specs.IndexSet.{insert_key}
use Rattle.asset_names.specs.declared.names.Txn.{Txn}
use Rattle.asset_names.specs.Arrows.{lists, with_name}
use Rattle.asset_names.proofs.Common.{eqb-flip}
use Rattle.asset_names.proofs.ListLemmas.{any_alike}
use Rattle.asset_history.specs.Sharing.{named}

pub listed_as : (names : List ℕ) (n : ℕ) → list_any (eqb n) names ≡ lists names n
unfolding lists
listed_as names n = any_alike (eqb n) (λ m. eqb m n) names (λ m. eqb-flip n m)

pub inserted : (names : List ℕ) (n : ℕ) → insert_key eqb names n ≡ with_name names n
unfolding with_name
inserted names n = ap (λ b. cond b names (names ++ n ∷ [])) (listed_as names n)

-- a name that is told is the one at the index
pub told_name : (found : Option ℕ) (t : Txn) → option_map named found ≡ Some t → found ≡ Some t.0
told_name (Some n) t is = ap (λ (u : Option Txn). option_map (λ (v : Txn). v.0) u) is
told_name None t is = absurd cc

pub no_name : (found : Option ℕ) → option_map named found ≡ None → found ≡ None
no_name (Some n) is = absurd cc
no_name None is = refl
