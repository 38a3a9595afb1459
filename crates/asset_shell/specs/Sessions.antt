-- What is answered to each line of a conversation.
use Rattle.std.specs.Prelude.{ℕ, ℤ, ◌+◌, Bool, true, false, cond, List, [], ◌∷◌, ◌++◌, Option, None, Some}
use Rattle.asset_names.specs.declared.names.Ob.{Ob}
use Rattle.asset_names.specs.declared.steps.Step.{Step}
use Rattle.asset_names.specs.declared.replies.Outcome.{Outcome}
use Rattle.asset_names.specs.Operations.{exists}
use Rattle.asset_entries.specs.Recorded.{Recorded, opened, answer_to, has_room}
use Rattle.asset_grammar.specs.declared.grammar.Command.TheVariants.{Object, Ask}
use Rattle.asset_grammar.specs.declared.grammar.Line.{Line}
use Rattle.asset_grammar.specs.declared.grammar.Line.TheVariants.{Blank, Command, Bad}
use Rattle.asset_grammar.specs.Grammar.{line_of}
use Rattle.asset_printing.specs.Texts.{bad_line, full_line, outcome_line}
use Rattle.asset_scripts.specs.Transcript.{joined_by}
use Rattle.asset_check.specs.Checked.{Seen, mistake_at}
use Rattle.asset_reasons.specs.Mistakes.{Found}
use Rattle.asset_check.specs.Sentences.{mistake_line}

-- the history so far, and whether a step was asked for
pub record Session : Type 0 where
  pub history : Recorded
  pub stepped : Bool

-- the session before the first line
unfoldable pub new_session : ℕ → Session
new_session capacity = record { history = opened [] capacity; stepped = false }

-- what later lines depend on for being bad
unfoldable pub session_seen : Session → Seen
session_seen session = cond session.stepped None (Some session.history.opening)

-- why a line is bad where it stands, if it is
abbrev pub mistake_of : Session → List ℕ → Option Found
mistake_of session line = mistake_at (session_seen session) line

-- the line of a step with this outcome, which says `full` if there is no room for it: then the step is not answered
unfoldable pub outcome_text : Recorded → Step → Outcome → List ℕ
outcome_text history step outcome = cond (has_room history step outcome) (outcome_line outcome) full_line

-- what is answered to a line that says this and is not bad
unfoldable pub answer_line : Session → Line → List ℕ
answer_line session Blank = []
answer_line session (Command (Ask step)) = outcome_text session.history step (answer_to session.history step)
answer_line session (Command (Object given)) = []
answer_line session Bad = []

-- what is answered to line n: that it is bad, if it is
unfoldable pub answer_if : Option Found → Session → ℕ → Line → List ℕ
answer_if None session n said = answer_line session said
answer_if (Some told) session n said = bad_line n

-- the answer to line n
unfoldable pub reply_to : Session → ℕ → List ℕ → List ℕ
reply_to session n line = answer_if (mistake_of session line) session n (line_of line)

-- what is said of line n beside its answer: why it is bad, if it is
unfoldable pub reason_for : Session → ℕ → List ℕ → List ℕ
reason_for session n line = mistake_line n (mistake_of session line)

-- the session with one more object before the first step, unless it is there
unfoldable pub with_object : Session → Ob × ℤ → Session
with_object session given =
    cond session.stepped session
    (cond (exists session.history.opening given.0.0) session (record session { history = record session.history { opening = session.history.opening ++ given ∷ [] } }))

-- the session after a line that says this
unfoldable pub session_by : Session → Line → Session
session_by session Blank = session
session_by session (Command (Ask step)) = record { history = joined_by session.history step (answer_to session.history step); stepped = true }
session_by session (Command (Object given)) = with_object session given
session_by session Bad = session

-- the session after a line
unfoldable pub session_after : Session → List ℕ → Session
session_after session line = session_by session (line_of line)

-- what is said of each line, from line n on
unfoldable pub said_of_each : (Session → ℕ → List ℕ → List ℕ) → List (List ℕ) → ℕ → Session → List ℕ
said_of_each say [] n session = []
said_of_each say (line ∷ more) n session = say session n line ++ said_of_each say more (n + 1) (session_after session line)
