-- What an answerer of lines shows.
use Rattle.std.specs.Prelude.{◌≡◌, ℕ, Bool, true, false, List, [], Option, None, Some}
use Rattle.asset_names.specs.Steps.{Opening}
use Rattle.asset_entries.specs.Recorded.{Recorded, opened}
use Rattle.asset_core.specs.Pending.{Facility}
use Rattle.asset_grammar.specs.declared.grammar.Said.{Said}
use Rattle.asset_grammar.specs.declared.grammar.Said.TheVariants.{Ask}
use Rattle.asset_printing.specs.Texts.{bad_line}
use Rattle.asset_check.specs.Checked.{Seen}
use Rattle.asset_reasons.specs.Mistakes.{Found}
use Rattle.asset_shell.specs.Sessions.{Session, new_session}

-- the session after the lines so far, the number of the next line, and the number of the first bad line so far
pub record Answered : Type 0 where
  pub session : Session
  pub number : ℕ
  pub bad : Option ℕ

-- the session of a facility that is open, and otherwise one without a step, with the objects so far if there are any
unfoldable pub session_of : Option Facility → Seen → ℕ → Session
session_of (Some core) seen capacity = record { history = core.history; stepped = true }
session_of None (Some opening) capacity = record { history = opened opening capacity; stepped = false }
session_of None None capacity = new_session capacity

-- the facility is open exactly if objects are no longer added
unfoldable pub IsJoint : Option Facility → Seen → Type 0
IsJoint (Some core) seen = seen ≡ None
IsJoint None seen = (opening : Opening) × (seen ≡ Some opening)

-- the history of a facility that is open, and otherwise one without objects, entries and room
unfoldable pub open_history : Option Facility → Recorded
open_history (Some core) = core.history
open_history None = opened [] 0

-- whether a line asks for a step
unfoldable pub asks : Said → Bool
asks Ask = true
asks said = false

-- the answer to a bad line, and nothing to another one
unfoldable pub bad_if : Option Found → ℕ → List ℕ
bad_if None n = []
bad_if (Some told) n = bad_line n
