-- Which groups go, and who stays.
use Rattle.std.specs.Prelude.{◌≡◌, ℕ, ◌<◌, Bool, true, not, ◌&&◌, List, Some}
use Rattle.std.specs.List.{list_any}
use Rattle.asset_names.specs.declared.names.Txn.{Txn}
use Rattle.asset_names.specs.Arrows.{lists}
use Rattle.asset_names.specs.Steps.{Entry}
use Rattle.asset_names.specs.Groups.{stays}
use Rattle.asset_history.specs.Named.{names_of}
use Rattle.asset_deletion.specs.Grouping.{Grouping, number_in, same_number, dead_in, dead_at}

-- whether the transaction is of the group with this number, and that group is dead
unfoldable pub takes_along : Grouping → ℕ → Txn → Bool
takes_along groups g t = same_number (number_in groups t.0) (Some g) && dead_in groups t.0

-- whether the group with this number is dead and has a chosen transaction
unfoldable pub goes : Grouping → List Txn → ℕ → Bool
goes groups chosen g = list_any (takes_along groups g) chosen

-- whether n stays, by the marks of the groups that go
unfoldable pub keeps : Grouping → List Bool → ℕ → Bool
keeps groups going n = not (dead_at going (number_in groups n))

-- each number of a group is below the bound
abbrev pub AreNumbersBelow : Grouping → ℕ → Type 0
AreNumbersBelow groups bound = (n g : ℕ) → number_in groups n ≡ Some g → g < bound

-- there are transactions for which the marks say, of each name of the entries, whether it stays if they are chosen
pub record SaysWhoStays (entries : List Entry) (groups : Grouping) (going : List Bool) : Type 0 where
  pub chosen : List ℕ
  pub exact : (n : ℕ) → lists (names_of entries) n ≡ true → keeps groups going n ≡ stays entries chosen n
