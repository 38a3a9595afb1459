-- What an answerer shows after a line.
use Rattle.std.proofs.Common.{◌≡◌, ℕ, Bool, true, false, cond, List, [], ◌∷◌, ◌++◌, Option, None, Some, refl, sym, ap}
use Rattle.std.specs.Prelude.{is_some, ℤ}
use Rattle.asset_names.specs.declared.names.Ob.{Ob}
use Rattle.asset_names.specs.declared.steps.Step.{Step}
use Rattle.asset_names.specs.Steps.{Opening}
use Rattle.asset_names.specs.Operations.{exists}
use Rattle.asset_entries.specs.Recorded.{Recorded, opened, answer_to}
use Rattle.asset_core.specs.Pending.{Facility}
use Rattle.asset_grammar.specs.declared.grammar.Command.TheVariants.{Ask}
use Rattle.asset_grammar.specs.declared.grammar.Line.TheVariants.{Command}
use Rattle.asset_grammar.specs.declared.grammar.Said.{Said}
use Rattle.asset_grammar.specs.declared.grammar.Said.TheVariants as Said'
use Rattle.asset_grammar.specs.Grammar.{line_of, said_as}
use Rattle.asset_shell.specs.Sessions.{outcome_text}
use Rattle.asset_check.specs.Checked.{Seen, mistake_in, seen_by, seen_object}
use Rattle.asset_reasons.specs.Mistakes.{Finds, Found}
use Rattle.asset_reasons.specs.declared.reasons.Mistake.{Mistake}
use Rattle.asset_check.specs.Sentences.{mistake_line}
use Rattle.asset_shell.specs.Answering.{IsJoint, asks, bad_if, open_history, session_of}
use Rattle.asset_shell.specs.Sessions.{Session, answer_if, answer_line, mistake_of, reason_for, reply_to, session_seen, session_after, session_by, with_object}

-- a facility that is open, and one that is not
pub joint_open : (core : Option Facility) (seen : Seen) → is_some core ≡ true → seen ≡ None → IsJoint core seen
unfolding IsJoint
joint_open (Some core) seen is none = none
joint_open None seen is none = absurd (cc)

pub joint_new : (core : Option Facility) (seen : Seen) (opening : Opening) → is_some core ≡ false → seen ≡ Some opening → IsJoint core seen
unfolding IsJoint
joint_new (Some core) seen opening none some = absurd (cc)
joint_new None seen opening none some = (opening, some)

pub joint_objects : (core : Option Facility) (seen : Seen) → IsJoint core seen → is_some core ≡ false → (opening : Opening) × (seen ≡ Some opening)
unfolding IsJoint
joint_objects (Some core) seen joint none = absurd (cc)
joint_objects None seen joint none = joint

pub joint_ended : (core : Option Facility) (seen : Seen) → IsJoint core seen → is_some core ≡ true → seen ≡ None
unfolding IsJoint
joint_ended (Some core) seen joint is = joint
joint_ended None seen joint is = absurd (cc)

-- the history of an open facility, and of one that will be opened
pub open_shown : (core : Option Facility) (seen : Seen) (capacity : ℕ) → is_some core ≡ true → open_history core ≡ (session_of core seen capacity).history
unfolding open_history session_of
open_shown (Some core) seen capacity some = refl
open_shown None seen capacity some = absurd (cc)

pub objects_shown : (core : Option Facility) (seen : Seen) (capacity : ℕ) (opening : Opening) → is_some core ≡ false → seen ≡ Some opening → opened opening capacity ≡ (session_of core seen capacity).history
unfolding session_of
objects_shown (Some core) seen capacity opening none some = absurd (cc)
objects_shown None seen capacity opening none some = rw some refl

-- the session of an open facility
pub session_stepped : (core : Option Facility) (seen : Seen) (capacity : ℕ) (h : Recorded) → is_some core ≡ true → open_history core ≡ h → session_of core seen capacity ≡ record { history = h; stepped = true }
unfolding open_history session_of
session_stepped (Some core) seen capacity h some is = ap (λ (history : Recorded). record { history = history; stepped = true }) is
session_stepped None seen capacity h some is = absurd (cc)

-- what later lines depend on
pub seen_shown : (core : Option Facility) (seen : Seen) (capacity : ℕ) → IsJoint core seen → session_seen (session_of core seen capacity) ≡ seen
unfolding IsJoint session_of session_seen opened
seen_shown (Some core) seen capacity joint = sym joint
seen_shown None seen capacity (opening, some) = rw some refl

-- after a line that asks for no step
pub joint_after : (core : Option Facility) (seen seen' : Seen) (line : List ℕ) (said : Said) (step : Step) → IsJoint core seen → asks said ≡ false → line_of line ≡ said_as said step → seen' ≡ seen_by seen (line_of line) → IsJoint core seen'
unfolding IsJoint asks said_as seen_by seen_object
joint_after (Some core) seen seen' line Said'.Blank step joint other says later = rw (later, says, joint) refl
joint_after (Some core) seen seen' line (Said'.Object given) step joint other says later = rw (later, says, joint) refl
joint_after (Some core) seen seen' line Said'.Ask step joint other says later = absurd (cc)
joint_after (Some core) seen seen' line Said'.Bad step joint other says later = rw (later, says, joint) refl
joint_after None seen seen' line Said'.Blank step (opening, some) other says later = (opening, rw (later, says, some) refl)
joint_after None seen seen' line (Said'.Object given) step (opening, some) other says later = (cond (exists opening given.0.0) opening (opening ++ given ∷ []), rw (later, says, some) refl)
joint_after None seen seen' line Said'.Ask step (opening, some) other says later = absurd (cc)
joint_after None seen seen' line Said'.Bad step (opening, some) other says later = (opening, rw (later, says, some) refl)

object_after : (opening : Opening) (capacity : ℕ) (given : Ob × ℤ) (there : Bool) → exists opening given.0.0 ≡ there
    → session_of None (Some (cond (exists opening given.0.0) opening (opening ++ given ∷ []))) capacity ≡ with_object (session_of None (Some opening) capacity) given
unfolding session_of with_object opened
object_after opening capacity given true e = rw e refl
object_after opening capacity given false e = rw e refl

pub session_taken : (core : Option Facility) (seen seen' : Seen) (capacity : ℕ) (line : List ℕ) (said : Said) (step : Step) → IsJoint core seen → asks said ≡ false → line_of line ≡ said_as said step
    → seen' ≡ seen_by seen (line_of line) → session_of core seen' capacity ≡ session_after (session_of core seen capacity) line
unfolding IsJoint asks said_as seen_by seen_object session_of session_after session_by with_object
session_taken (Some core) seen seen' capacity line Said'.Blank step joint other says later = rw says refl
session_taken (Some core) seen seen' capacity line (Said'.Object given) step joint other says later = rw says refl
session_taken (Some core) seen seen' capacity line Said'.Ask step joint other says later = absurd (cc)
session_taken (Some core) seen seen' capacity line Said'.Bad step joint other says later = rw says refl
session_taken None seen seen' capacity line Said'.Blank step (opening, some) other says later = rw (later, says, some) refl
session_taken None seen seen' capacity line (Said'.Object given) step (opening, some) other says later = rw (later, says, some) (object_after opening capacity given (exists opening given.0.0) refl)
session_taken None seen seen' capacity line Said'.Ask step (opening, some) other says later = absurd (cc)
session_taken None seen seen' capacity line Said'.Bad step (opening, some) other says later = rw (later, says, some) refl

answered : (said : Said) (told : Option Found) (s : Session) (n : ℕ) (step : Step) → asks said ≡ false → answer_if told s n (said_as said step) ≡ bad_if told n
unfolding asks said_as answer_if answer_line bad_if
answered Said'.Blank None s n step other = refl
answered (Said'.Object given) None s n step other = refl
answered Said'.Ask None s n step other = absurd (cc)
answered Said'.Bad None s n step other = refl
answered said (Some told) s n step other = refl

-- the answer to a line that asks for no step
pub reply_taken : (s : Session) (n : ℕ) (line : List ℕ) (said : Said) (step : Step) → asks said ≡ false → line_of line ≡ said_as said step → reply_to s n line ≡ bad_if (mistake_of s line) n
unfolding reply_to
reply_taken s n line said step other says = rw says (answered said _ s n step other)

-- a line that asks for a step
pub ask_said : (s : Session) (n : ℕ) (line : List ℕ) (step : Step) → line_of line ≡ Command (Ask step)
    → (reply_to s n line ≡ outcome_text s.history step (answer_to s.history step)) × (reason_for s n line ≡ []) × (session_after s line ≡ session_by s (Command (Ask step))) × (mistake_of s line ≡ None)
unfolding reply_to reason_for session_after mistake_in answer_if answer_line mistake_line
ask_said s n line step says = (rw says refl, rw says refl, rw says refl, rw says refl)

pub asks_ask : (said : Said) (step : Step) → asks said ≡ true → said_as said step ≡ Command (Ask step)
unfolding asks said_as
asks_ask Said'.Blank step e = absurd (cc)
asks_ask (Said'.Object given) step e = absurd (cc)
asks_ask Said'.Ask step e = refl
asks_ask Said'.Bad step e = absurd (cc)

-- whether a line is bad
pub tells_some : (found : Option Mistake) (told : Option Found) → Finds found told → is_some found ≡ is_some told
tells_some None told tells = rw tells refl
tells_some (Some mistake) told tells = rw tells refl
