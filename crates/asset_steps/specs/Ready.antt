-- What a step asks of the tables, and what becomes of the locks.
use Rattle.std.specs.Prelude.{◌≡◌, ℕ, ℤ, pos, Bool, true, false, cond, unwrap_or}
use Rattle.asset_names.specs.declared.operations.Op.TheVariants as Op'
use Rattle.asset_names.specs.declared.statuses.Status.TheVariants as Status'
use Rattle.asset_names.specs.declared.steps.Step.{Step}
use Rattle.asset_names.specs.declared.steps.Step.TheVariants.{Initiate, Begin, Read, Write, Add, Complete, Permit, PermitAny, Delegate, Depend, Commit, Abort, WaitFor}
use Rattle.asset_names.specs.declared.replies.Reply.TheVariants as Reply'
use Rattle.asset_names.specs.declared.replies.Outcome.{Outcome}
use Rattle.asset_names.specs.declared.replies.Outcome.TheVariants.{Answer, Wait}
use Rattle.asset_names.specs.Endings.{is_live_status}
use Rattle.asset_objects.specs.Cells.{cells, value_in, has_object}
use Rattle.asset_deps.specs.Dependencies.{class_in, doomed_in, would_cycle_in}
use Rattle.asset_locks.specs.LockTable as Locks
use Rattle.asset_trans.specs.TransRows.{status_in}
use Rattle.asset_ends.specs.Standing.{Standing, is_free_for, may_commit_in}

-- the value of an object, and 0 if there is no such object
unfoldable pub value_or_zero : Standing → ℕ → ℤ
value_or_zero tables x = unwrap_or (value_in (cells tables.objects) x) (pos 0)

-- what a read that is not refused is answered
unfoldable pub read_outcome : Standing → ℕ → ℕ → Outcome
read_outcome tables t x = cond (is_free_for tables t x Op'.Read) (Answer (Reply'.Value (value_or_zero tables x))) Wait

-- what a step that is to take effect asks of the tables
abbrev pub IsReady : Step → Standing → Type 0
IsReady (Initiate t parent) tables = status_in tables.trans t.0 ≡ Status'.Unknown
IsReady (Begin t) tables = status_in tables.trans t.0 ≡ Status'.Initiated
IsReady (Read t x) tables = (status_in tables.trans t.0 ≡ Status'.Running) × (is_free_for tables t.0 x.0 Op'.Read ≡ true) × (has_object (cells tables.objects) x.0 ≡ true)
IsReady (Write t x v) tables = (status_in tables.trans t.0 ≡ Status'.Running) × (is_free_for tables t.0 x.0 Op'.Write ≡ true) × (has_object (cells tables.objects) x.0 ≡ true)
IsReady (Add t x d) tables = (status_in tables.trans t.0 ≡ Status'.Running) × (is_free_for tables t.0 x.0 Op'.Add ≡ true) × (has_object (cells tables.objects) x.0 ≡ true)
IsReady (Complete t) tables = status_in tables.trans t.0 ≡ Status'.Running
IsReady (Permit giver taker obs ops) tables = (is_live_status (status_in tables.trans giver.0) ≡ true) × (is_live_status (status_in tables.trans taker.0) ≡ true)
IsReady (PermitAny giver obs ops) tables = is_live_status (status_in tables.trans giver.0) ≡ true
IsReady (Delegate giver taker obs) tables = (is_live_status (status_in tables.trans giver.0) ≡ true) × (is_live_status (status_in tables.trans taker.0) ≡ true)
IsReady (Depend kind a b) tables = (is_live_status (status_in tables.trans a.0) ≡ true) × (is_live_status (status_in tables.trans b.0) ≡ true) × (would_cycle_in tables.deps kind a.0 b.0 ≡ false)
IsReady (Commit t) tables = is_live_status (status_in tables.trans t.0) ≡ true → may_commit_in tables t.0 ≡ true
IsReady (Abort t) tables = Unit {0}
IsReady (WaitFor t) tables = Unit {0}

-- what a request that is to wait asks of the tables
abbrev pub MayWait : Step → Standing → Type 0
MayWait (Read t x) tables = (status_in tables.trans t.0 ≡ Status'.Running) × (is_free_for tables t.0 x.0 Op'.Read ≡ false) × (has_object (cells tables.objects) x.0 ≡ true)
MayWait (Write t x v) tables = (status_in tables.trans t.0 ≡ Status'.Running) × (is_free_for tables t.0 x.0 Op'.Write ≡ false) × (has_object (cells tables.objects) x.0 ≡ true)
MayWait (Add t x d) tables = (status_in tables.trans t.0 ≡ Status'.Running) × (is_free_for tables t.0 x.0 Op'.Add ≡ false) × (has_object (cells tables.objects) x.0 ≡ true)
MayWait step tables = Unit {0}

-- those whom an end of t takes are released, if t was live
unfoldable pub released : Standing → ℕ → (ℕ → Bool) → Locks.LockTable
released tables t test = cond (is_live_status (status_in tables.trans t)) (Locks.release_in test tables.locks) tables.locks

-- the locks after a step that took effect
unfoldable pub locks_after : Step → Standing → Locks.LockTable
locks_after (Initiate t parent) tables = Locks.enrol_in t.0 tables.locks
locks_after (Read t x) tables = Locks.grant_in t.0 x Op'.Read tables.locks
locks_after (Write t x v) tables = Locks.grant_in t.0 x Op'.Write tables.locks
locks_after (Add t x d) tables = Locks.grant_in t.0 x Op'.Add tables.locks
locks_after (Delegate giver taker obs) tables = Locks.hand_over_in giver.0 taker.0 obs tables.locks
locks_after (Commit t) tables = released tables t.0 (class_in tables.deps t.0)
locks_after (Abort t) tables = released tables t.0 (doomed_in tables.deps t.0)
locks_after step tables = tables.locks

-- the locks after a request that waits
unfoldable pub locks_waiting : Step → Standing → Locks.LockTable
locks_waiting (Read t x) tables = Locks.wait_in t.0 x Op'.Read tables.locks
locks_waiting (Write t x v) tables = Locks.wait_in t.0 x Op'.Write tables.locks
locks_waiting (Add t x d) tables = Locks.wait_in t.0 x Op'.Add tables.locks
locks_waiting step tables = tables.locks
