-- What the calls of a handle do. A code is a number: 0 done, 1 full, 2 no memory, 3 closed, 4 open, 5 bad capacity, 6 double
-- object, 7 bad argument, 8 absent.
use Rattle.std.specs.Prelude.{◌≡◌, ◌≢◌, ◌↔◌, ◌≤◌, ◌⊎◌, ℕ, ℤ, true, false, List, length, map, reverse, slice_get, Option, Some, None, is_some, MatchOption}
use Rattle.asset_names.specs.declared.names.Txn.{Txn}
use Rattle.asset_names.specs.declared.operations.Op.{Op}
use Rattle.asset_names.specs.declared.steps.Step.{Step}
use Rattle.asset_names.specs.declared.replies.Outcome.TheVariants.{Answer, Wait}
use Rattle.asset_names.specs.Steps.{Opening, Entry, applied, objects_of}
use Rattle.asset_names.specs.Sets.{IsLeastDouble}
use Rattle.asset_names.specs.Answers.{takes_memory, outcome_takes_effect}
use Rattle.asset_names.specs.Endings.{status}
use Rattle.asset_names.specs.Operations.{value_if_any}
use Rattle.asset_names.specs.Sources.{is_operation}
use Rattle.asset_entries.specs.Recorded.{answer_to, after, has_room, is_ending}
use Rattle.asset_core.specs.Pending.{Facility, facility_of, pending_after, waiting_for}
use Rattle.asset_core.specs.OpenFaults.{IsCapacity, MayOpen}
use Rattle.asset_deletion.specs.Grouping.{grouping_of, number_in}
use Rattle.asset_handle.specs.declared.codes.Code.{Code}
use Rattle.asset_handle.specs.declared.codes.Code.TheVariants.{BadCapacity, DoubleObject, NoMemory}
use Rattle.asset_handle.specs.declared.plain.PlainObject.{PlainObject}
use Rattle.asset_handle.specs.declared.plain.PlainStep.{PlainStep}
use Rattle.asset_handle.specs.declared.plain.PlainAnswer.{PlainAnswer}
use Rattle.asset_handle.specs.declared.plain.PlainWaiter.{PlainWaiter}
use Rattle.asset_handle.specs.Asked.{ob, step_in}
use Rattle.asset_handle.specs.Told.{told, status_number, op_number}

-- the opening that plain objects give
unfoldable pub opening_of : List PlainObject → Opening
opening_of objects = map (λ (given : PlainObject). (ob given.name, given.value)) objects

-- A closed handle stays closed, and the code says so. An open one stays open, and R says what became of its facility.
abbrev pub Keeps : Option Facility → ℕ → Option Facility → (Facility → Facility → Type 0) → Type 0
Keeps None code None R = code ≡ 3
Keeps None code (Some g) R = ⊥
Keeps (Some f) code None R = ⊥
Keeps (Some f) code (Some g) R = R f g

-- A step is answered, or it meets a fault. Done: the answer is the one answer to the step, and the facility is the one after it.
-- Full comes exactly if there is no room, and NoMemory only if a step that may need memory takes effect; an ending that changes
-- a status meets neither, and after both nothing has changed.
pub record IsAnswered (before : Facility) (step : Step) (first : PlainAnswer) (code : ℕ) (later : Facility) (answer : PlainAnswer) : Type 0 where
  pub answered : code ≡ 0 → answer ≡ told (answer_to before.history step)
  pub grown : code ≡ 0 → later.history ≡ after before.history step (answer_to before.history step)
  pub pending : code ≡ 0 → later.pending ≡ pending_after before step (answer_to before.history step)
  pub still : code ≡ 0 → answer_to before.history step ≡ Wait → is_operation step ≡ false → later ≡ before
  pub full : code ≡ 1 ↔ (has_room before.history step (answer_to before.history step) ≡ false)
  pub memory : code ≡ 2 → (takes_memory step ≡ true) × (outcome_takes_effect step (answer_to before.history step) ≡ true)
  pub ending : is_ending before.history step (answer_to before.history step) ≡ true → code ≡ 0
  pub codes : code ≤ 2
  pub fault : code ≢ 0 → later ≡ before
  pub kept : code ≢ 0 → answer ≡ first

-- a plain step: one that asks for nothing is a bad argument, and changes nothing
abbrev pub IsPlainlyAsked : Facility → PlainStep → PlainAnswer → ℕ → Facility → PlainAnswer → Type 0
IsPlainlyAsked before asked first code later answer =
    MatchOption (step_in asked) ((code ≡ 7) × (later ≡ before) × (answer ≡ first)) (λ step. IsAnswered before step first code later answer)

-- the number of the status of a transaction
abbrev pub IsStatus : Facility → ℕ → ℕ → ℕ → Type 0
IsStatus f t code number = (code ≡ 0) × (number ≡ status_number (status (applied f.history.entries) t))

-- the value of an object, if there is one
abbrev pub IsValueTold : Facility → ℕ → ℤ → ℕ → ℤ → Type 0
IsValueTold f x first code value =
    MatchOption (value_if_any f.history.opening (applied f.history.entries) x) ((code ≡ 8) × (value ≡ first)) (λ v. (code ≡ 0) × (value ≡ v))

-- the waiter of an object at an index, if there is one
abbrev pub IsWaiter : Facility → ℕ → ℕ → PlainWaiter → ℕ → PlainWaiter → Type 0
IsWaiter f x index first code waiter =
    MatchOption (slice_get (waiting_for x f.pending) index) ((code ≡ 8) × (waiter ≡ first))
    (λ (asker : Txn × Op). (code ≡ 0) × (waiter.name ≡ asker.0.0) × (waiter.op ≡ op_number asker.1))

-- how many entries there are
abbrev pub IsLen : Facility → ℕ → ℕ → Type 0
IsLen f code len = (code ≡ 0) × (len ≡ length f.history.entries)

-- the entry at an index, oldest first, if there is one: a plain step that asks for its step, and its reply
abbrev pub IsEntry : Facility → ℕ → PlainStep → PlainAnswer → ℕ → PlainStep → PlainAnswer → Type 0
IsEntry f index step answer code asked replied =
    MatchOption (slice_get (reverse f.history.entries) index) ((code ≡ 8) × (asked ≡ step) × (replied ≡ answer))
    (λ (entry : Entry). (code ≡ 0) × (step_in asked ≡ Some entry.0) × (replied ≡ told (Answer entry.1)))

-- the number of the group of a transaction, if a step acts on it and memory does not run out
abbrev pub IsGroup : Facility → ℕ → ℕ → ℕ → ℕ → Type 0
IsGroup f t first code group =
    ((code ≡ 2) × (group ≡ first)) ⊎ MatchOption (number_in (grouping_of f.history.entries) t) ((code ≡ 8) × (group ≡ first)) (λ n. (code ≡ 0) × (group ≡ n))

-- Why no facility is opened: the capacity, the least object that is given twice, or memory.
abbrev pub IsFault : Opening → ℕ → ℕ → Code → ℕ → Type 0
IsFault opening room first BadCapacity named = (named ≡ first) × ¬ IsCapacity room
IsFault opening room first DoubleObject named = IsCapacity room × IsLeastDouble (objects_of opening) named
IsFault opening room first NoMemory named = named ≡ first
IsFault opening room first _ named = ⊥

-- A handle is opened. Done: it has the facility over these objects. Of the faults the first one that applies comes: that it is
-- open, the capacity, and the least object that is given twice. Memory may run out before the last two are looked at.
pub record IsHandleOpened (before : Option Facility) (opening : Opening) (room first code : ℕ) (later : Option Facility) (named : ℕ) : Type 0 where
  pub opened : code ≡ 0 → later ≡ Some (facility_of opening room)
  pub may : code ≡ 0 → MayOpen opening room
  pub already : (f : Facility) → before ≡ Some f → code ≡ 4
  pub open_before : code ≡ 4 → is_some before ≡ true
  pub closed : code ≢ 4 → before ≡ None
  pub capacity : code ≡ 5 → ¬ IsCapacity room
  pub double : code ≡ 6 → IsCapacity room × IsLeastDouble (objects_of opening) named
  pub codes : (code ≡ 0) ⊎ (code ≡ 2) ⊎ (code ≡ 4) ⊎ (code ≡ 5) ⊎ (code ≡ 6)
  pub fault : code ≢ 0 → later ≡ before
  pub kept : code ≢ 6 → named ≡ first

-- a handle is closed, whether or not it was before, and the code says which
abbrev pub IsHandleClosed : Option Facility → ℕ → Option Facility → Type 0
IsHandleClosed before code later = (later ≡ None) × MatchOption before (code ≡ 3) (λ f. code ≡ 0)
