-- What serving a step does to the facility and to the session.
use Rattle.std.specs.Prelude.{◌≡◌, ◌≤◌, ◌⊎◌, length, Result, Err}
use Rattle.asset_names.specs.declared.steps.Step.{Step}
use Rattle.asset_names.specs.declared.replies.Outcome.{Outcome}
use Rattle.asset_names.specs.declared.replies.Fault.{Fault}
use Rattle.asset_names.specs.declared.replies.Fault.TheVariants.{NoMemory}
use Rattle.asset_core.specs.Pending.{Facility}
use Rattle.asset_core.specs.Stepped.{IsStep}
use Rattle.asset_manager.specs.Listed.{Lists}
use Rattle.asset_manager.specs.Asker.{Asker}
use Rattle.asset_manager.specs.Booked.{CanBeHeld}

-- the list has no room for a call, and there is no memory for more: the step is not asked
pub record IsUnlisted (before : Facility) (session : Asker) (result : Result Outcome Fault) (later : Facility) : Type 0 where
  pub memory : result ≡ Err NoMemory
  pub full : session.list.room ≤ length session.list.calls
  pub same : later ≡ before

-- The step is asked of the facility, unless the list wants memory. A reply is one more entry there and one more call at
-- the end of the session's list, with the entry's number; a wait or a fault is neither.
pub record Serves (before : Facility) (session : Asker) (step : Step) (result : Result Outcome Fault) (later : Facility) (session' : Asker) : Type 0 where
  pub steps : IsStep before step result later ⊎ IsUnlisted before session result later
  pub lists : Lists (length before.history.entries) session.list.calls step result session'.list.calls
  pub room : session.list.room ≤ session'.list.room
  pub of : session'.of ≡ session.of
  pub seen : session'.seen ≡ session.seen

-- some facility served the step, with a history that a facility can have; which facility this was is not said
pub record IsServed (session : Asker) (step : Step) (result : Result Outcome Fault) (session' : Asker) : Type 0 where
  pub before : Facility
  pub later : Facility
  pub held : CanBeHeld before.history
  pub serves : Serves before session step result later session'
