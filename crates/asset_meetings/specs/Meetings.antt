-- Joins that say who met.
use Rattle.std.specs.Prelude.{◌≡◌, ℕ, Bool, true, List, ◌++◌, map}
use Rattle.std.specs.List.{list_all}
use Rattle.asset_names.specs.declared.names.Txn.{Txn}
use Rattle.asset_names.specs.Arrows.{Arrow, lists, has_arrow, linked}
use Rattle.asset_names.specs.Paths.{both_ways}
use Rattle.asset_names.specs.Steps.{Entry}
use Rattle.asset_names.specs.Groups.{acted_on, joins, same_group}
use Rattle.asset_history.specs.Uses.{partners}
use Rattle.asset_laws.specs.Serial.{is_apart}

-- an arrow for each join
unfoldable pub join_arrows : List (Txn × Txn) → List Arrow
join_arrows found = map (λ (join : Txn × Txn). (join.0.0, join.1.0)) found

-- The joins are of transactions that some step acts on. With the two transactions of each entry they make the groups of the
-- entries, and join whoever passes a test with another exactly if some join of the entries does.
pub record AreMeetings (entries : List Entry) (found : List (Txn × Txn)) : Type 0 where
  pub named : (u v : ℕ) → has_arrow (join_arrows found) u v ≡ true → (lists (acted_on entries) u ≡ true) × (lists (acted_on entries) v ≡ true)
  pub groups : (u v : ℕ) → linked (both_ways (join_arrows found ++ partners entries)) u v ≡ same_group entries u v
  pub apart : (test : ℕ → Bool) → list_all (is_apart test) (join_arrows found ++ partners entries) ≡ list_all (is_apart test) (joins entries)
