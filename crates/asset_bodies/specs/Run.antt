-- What the run of a child leaves.
use Rattle.std.specs.Prelude.{◌≡◌, ◌≢◌, ◌≤◌, ◌+◌, ◌⊎◌, length}
use Rattle.asset_names.specs.declared.names.Txn.{Txn}
use Rattle.asset_bodies.specs.declared.ends.JobEnd.{JobEnd}
use Rattle.asset_bodies.specs.declared.ends.JobEnd.TheVariants as JobEnd'
use Rattle.asset_bodies.specs.declared.child.ChildEnd.{ChildEnd}
use Rattle.asset_bodies.specs.declared.child.ChildEnd.TheVariants as ChildEnd'
use Rattle.asset_bodies.specs.Ends.{job_end}
use Rattle.asset_bodies.specs.Asked.{is_done}
use Rattle.asset_bodies.specs.Working.{Working, Worked, HasRoom}
use Rattle.asset_bodies.specs.Child.{Begun, FailsToBegin, Closes}

-- the body was called with the child, which owes three entries more than its parent and whose list had room for them,
-- and answered `finished`
pub record Called (post : Working → Worked → Type 0) (parent : Working) (child : Txn) (finished : Worked) : Type 0 where
  pub tx : Working
  pub name : tx.name ≡ child
  pub manager : tx.manager ≡ parent.manager
  pub owed : tx.owed ≡ parent.owed + 3
  pub room : HasRoom tx
  pub begun : Begun parent.name child parent.list.calls tx.list.calls
  pub answered : post tx finished

-- the body answered its own `Finished`, and the child ended so
pub record Ended (post : Working → Worked → Type 0) (parent : Working) (child : Txn) (later : Working) (end : JobEnd) : Type 0 where
  pub finished : Worked
  pub called : Called post parent child finished
  pub own : finished.name.0 ≡ child.0
  pub closed : Closes parent.name child finished.done (is_done finished.met) finished.list.calls later.list.calls
  pub end_is : job_end child.0 later.list.calls ≡ end
  pub room : length finished.list.calls + (2 + parent.owed) ≤ finished.list.room → HasRoom later

-- the body answered the `Finished` of another, with whose session the parent goes on
pub record IsStranger (post : Working → Worked → Type 0) (parent : Working) (child : Txn) (later : Working) (other : Txn) : Type 0 where
  pub finished : Worked
  pub called : Called post parent child finished
  pub strange : finished.name.0 ≢ child.0
  pub other_is : finished.name ≡ other
  pub list : later.list ≡ finished.list

-- the body was not called: memory ran out and nothing was asked, or a step before it was not answered `Done`
pub record NotCalled (parent : Working) (child : Txn) (later : Working) : Type 0 where
  pub asked : (later.list.calls ≡ parent.list.calls) ⊎ FailsToBegin parent.name child parent.list.calls later.list.calls
  pub room : HasRoom parent → HasRoom later

abbrev pub RunsChild : {X : Type 0} {B : X → Type 0} → (Working → Worked → Type 0) → Working → Txn → Working → ChildEnd X B → Type 0
RunsChild post parent child later ChildEnd'.Committed = Ended post parent child later JobEnd'.Committed
RunsChild post parent child later ChildEnd'.Aborted = Ended post parent child later JobEnd'.Aborted
RunsChild post parent child later ChildEnd'.Unsettled = Ended post parent child later JobEnd'.Unsettled
RunsChild post parent child later (ChildEnd'.NotBegun body) = NotCalled parent child later
RunsChild post parent child later (ChildEnd'.Stranger other) = IsStranger post parent child later other
