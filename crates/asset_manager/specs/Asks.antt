-- What a call through the lock tells its session. Nobody can say which history the facility has when the lock is got, so a
-- clause says only that the answer is that of some history that a facility can have: its objects, entries and capacity are left
-- open. So `Full`, and what `first_of` and `group_committed` return, tell by the clauses only that there is such a history.
use Rattle.std.specs.Prelude.{◌≡◌, ◌≤◌, ◌<◌, ℕ, Bool, ◌⊎◌, ◌++◌, ◌∷◌, [], List, length, Option, Some, None, Result, Ok, Err}
use Rattle.atomic_table.specs.Seated.{TableId}
use Rattle.asset_names.specs.declared.names.Txn.{Txn}
use Rattle.asset_names.specs.declared.steps.Step.{Step}
use Rattle.asset_names.specs.declared.replies.Reply.{Reply}
use Rattle.asset_names.specs.declared.replies.Outcome.{Outcome}
use Rattle.asset_names.specs.declared.replies.Outcome.TheVariants.{Answer, Wait}
use Rattle.asset_names.specs.declared.replies.Fault.{Fault}
use Rattle.asset_names.specs.declared.replies.Fault.TheVariants.{NoMemory}
use Rattle.asset_names.specs.declared.counts.Counts.{Counts}
use Rattle.asset_entries.specs.Recorded.{Recorded, answer_to}
use Rattle.asset_history.specs.Sharing.{first_of, group_committed}
use Rattle.asset_audit.specs.Audited.{Call}
use Rattle.asset_core.specs.Pending.{Facility}
use Rattle.asset_core.specs.Stepped.{IsStep}
use Rattle.asset_counts.specs.Pass.{IsOf}
use Rattle.asset_manager.specs.Listed.{Lists}
use Rattle.asset_manager.specs.Asker.{Asker}
use Rattle.asset_manager.specs.Booked.{CanBeHeld}

-- two sessions may be used with one manager
abbrev pub AreOfOne : Option TableId → Option TableId → Type 0
AreOfOne None other = Unit {0}
AreOfOne (Some word) other = IsOf other word

-- the entry of a reply, which has this number, was published, and seen
abbrev pub Sees : ℕ → Result Outcome Fault → Counts → Type 0
Sees number (Ok (Answer reply)) seen = number < seen.entries
Sees number (Ok Wait) seen = Unit {0}
Sees number (Err fault) seen = Unit {0}

-- the entry of the last call was published, and seen
abbrev pub SawLast : List Call → Counts → Type 0
SawLast calls seen = (before : List Call) (call : Call) → calls ≡ before ++ call ∷ [] → call.0 < seen.entries

-- some facility was asked, with a history that a facility can have: what it recorded is one more call, and was seen
pub record IsAsked (session : Asker) (step : Step) (result : Result Outcome Fault) (session' : Asker) : Type 0 where
  pub before : Facility
  pub later : Facility
  pub held : CanBeHeld before.history
  pub steps : IsStep before step result later
  pub lists : Lists (length before.history.entries) session.list.calls step result session'.list.calls
  pub sees : Sees (length before.history.entries) result session'.seen

-- no facility was asked, since memory ran out before: the list has no room for a call, or the session had no pass
pub record IsUnasked (session : Asker) (result : Result Outcome Fault) (session' : Asker) : Type 0 where
  pub memory : result ≡ Err NoMemory
  pub wants : (session.list.room ≤ length session.list.calls) ⊎ (session.of ≡ None)
  pub same : session'.list.calls ≡ session.list.calls

-- the step was asked of some facility, or of none since memory ran out before
abbrev pub Asks : Asker → Step → Result Outcome Fault → Asker → Type 0
Asks session step result session' = IsAsked session step result session' ⊎ IsUnasked session result session'

-- the outcome is the answer to the step after some history that a facility can have
pub record IsAnswer (step : Step) (outcome : Outcome) : Type 0 where
  pub history : Recorded
  pub held : CanBeHeld history
  pub answered : outcome ≡ answer_to history step

-- the result is the first of those with whom t shares, after some history that a facility can have
pub record IsFirstSharer (t : Txn) (result : Option Txn) : Type 0 where
  pub history : Recorded
  pub held : CanBeHeld history
  pub is : result ≡ first_of history.entries t.0

-- the result says whether one of those with whom t shares has committed, after some history that a facility can have
pub record HasCommitted (t : Txn) (result : Bool) : Type 0 where
  pub history : Recorded
  pub held : CanBeHeld history
  pub is : result ≡ group_committed history.entries t.0

-- the result of a call that ends with no wait
abbrev pub as_outcome : Result Reply Fault → Result Outcome Fault
as_outcome (Ok reply) = Ok (Answer reply)
as_outcome (Err fault) = Err fault
