-- Who asks for a body: an agent, a transaction on which a body works, and one that its body has ended.
use Rattle.std.specs.Prelude.{◌≡◌, ◌≤◌, ◌+◌, ℕ, Bool, Option, length}
use Rattle.atomic_table.specs.Seated.{TableId}
use Rattle.asset_names.specs.declared.names.Txn.{Txn}
use Rattle.asset_manager.specs.Listed.{Listed}
use Rattle.asset_bodies.specs.Asked.{StepMet}

-- who asks: the manager, and the session's list
pub record Asking : Type 0 where
  pub manager : TableId
  pub list : Listed

-- a transaction on which a body works: its name, its manager, its session's list, and how many entries its own end and
-- the ends of its callers still need
pub record Working : Type 0 where
  pub name : Txn
  pub manager : TableId
  pub list : Listed
  pub owed : ℕ

-- one that its body has ended: its name, whether it is done or was given up, what its last step met, and its session
pub record Worked : Type 0 where
  pub name : Txn
  pub done : Bool
  pub met : StepMet
  pub of : Option TableId
  pub list : Listed

-- the list has room for its own end and for the ends of its callers
abbrev pub HasRoom : Working → Type 0
HasRoom tx = length tx.list.calls + tx.owed ≤ tx.list.room

-- the same transaction, whatever it has asked
pub record IsSame (before later : Working) : Type 0 where
  pub name : later.name ≡ before.name
  pub manager : later.manager ≡ before.manager
  pub owed : later.owed ≡ before.owed
