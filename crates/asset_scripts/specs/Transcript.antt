-- The transcript of a script: the text that its bytes give, how its run ends, and the history that is left.
use Rattle.std.specs.Prelude.{ℕ, ◌+◌, cond, List, [], ◌∷◌, ◌++◌, length, None}
use Rattle.asset_names.specs.declared.steps.Step.{Step}
use Rattle.asset_names.specs.declared.replies.Outcome.{Outcome}
use Rattle.asset_names.specs.Steps.{Opening}
use Rattle.asset_names.specs.Operations.{exists}
use Rattle.asset_entries.specs.Recorded.{Recorded, opened, answer_to, after, has_room}
use Rattle.asset_grammar.specs.declared.grammar.Command.TheVariants.{Object, Ask}
use Rattle.asset_grammar.specs.declared.grammar.Line.{Line}
use Rattle.asset_grammar.specs.declared.grammar.Line.TheVariants.{Blank, Command, Bad}
use Rattle.asset_scripts.specs.declared.ends.RunEnd.{RunEnd}
use Rattle.asset_scripts.specs.declared.ends.RunEnd.TheVariants.{Finished, BadLine}
use Rattle.asset_scripts.specs.declared.prints.Prints.{Prints}
use Rattle.asset_scripts.specs.declared.prints.Prints.TheVariants.{Nothing, Replies, Listing}
use Rattle.asset_scripts.specs.Listing.{entry_of, listed}
use Rattle.asset_grammar.specs.Lines.{lines}
use Rattle.asset_grammar.specs.Grammar.{line_of}
use Rattle.asset_printing.specs.Texts.{outcome_line, full_line, bad_line}

-- what a run prints, how it ends, and the history when it ends
pub record Transcript : Type 0 where
  pub text : List ℕ
  pub end : RunEnd
  pub history : Recorded

-- nothing more is printed
unfoldable pub finished : Recorded → Transcript
finished history = record { text = []; end = Finished; history = history }

-- line n is bad, and the run ends there
unfoldable pub stopped : ℕ → Recorded → Transcript
stopped n history = record { text = bad_line n; end = BadLine n; history = history }

-- a text, and then a later transcript
unfoldable pub with_prefix : List ℕ → Transcript → Transcript
with_prefix text later = record later { text = text ++ later.text }

-- what a step on line n prints that is answered, as the entry `place` if it becomes one: nothing, the line of its outcome, or
-- that line in a listing
unfoldable pub answered_text : Prints → ℕ → ℕ → Step → Outcome → List ℕ
answered_text Nothing n place step outcome = []
answered_text Replies n place step outcome = outcome_line outcome
answered_text Listing n place step outcome = listed n (entry_of outcome place) step (outcome_line outcome)

-- what it prints if there is no room for its entry
unfoldable pub full_text : Prints → ℕ → Step → List ℕ
full_text Nothing n step = []
full_text Replies n step = full_line
full_text Listing n step = listed n None step full_line

-- what a step on line n with this outcome prints: if there is no room for it, it is not answered
unfoldable pub printed : Prints → ℕ → Recorded → Step → Outcome → List ℕ
printed prints n history step outcome = cond (has_room history step outcome) (answered_text prints n (length history.entries) step outcome) (full_text prints n step)

-- the history after a step with this outcome, which joins it if there is room
unfoldable pub joined_by : Recorded → Step → Outcome → Recorded
joined_by history step outcome = cond (has_room history step outcome) (after history step outcome) history

-- what a line among the steps prints, before what the later lines do
unfoldable pub step_line : Prints → Line → ℕ → Recorded → (Recorded → Transcript) → Transcript
step_line prints Blank n history later = later history
step_line prints (Command (Ask step)) n history later =
    with_prefix (printed prints n history step (answer_to history step)) (later (joined_by history step (answer_to history step)))
step_line prints (Command (Object object)) n history later = stopped n history
step_line prints Bad n history later = stopped n history

-- what the lines from line n on print, from the line of the first step on
unfoldable pub steps_transcript : Prints → List (List ℕ) → ℕ → Recorded → Transcript
steps_transcript prints [] n history = finished history
steps_transcript prints (line ∷ more) n history = step_line prints (line_of line) n history (λ later. steps_transcript prints more (n + 1) later)

-- what a step on line n prints, and then the lines after it
unfoldable pub steps_from : Prints → Step → List (List ℕ) → ℕ → Recorded → Transcript
steps_from prints step more n history = step_line prints (Command (Ask step)) n history (λ later. steps_transcript prints more (n + 1) later)

-- What a line among the objects prints, before what the later lines do. The first step line begins the steps, and a bad line
-- stops.
unfoldable pub object_line : Line → Opening → (Opening → Transcript) → Transcript → Transcript → Transcript
object_line Blank opening later steps stop = later opening
object_line (Command (Object object)) opening later steps stop = cond (exists opening object.0.0) stop (later (opening ++ object ∷ []))
object_line (Command (Ask step)) opening later steps stop = steps
object_line Bad opening later steps stop = stop

-- What the lines from line n on print before the first step. An object line adds an object that no earlier line added.
unfoldable pub objects_transcript : Prints → List (List ℕ) → ℕ → Opening → ℕ → Transcript
objects_transcript prints [] n opening capacity = finished (opened opening capacity)
objects_transcript prints (line ∷ more) n opening capacity =
    object_line (line_of line) opening (λ later. objects_transcript prints more (n + 1) later capacity)
    (steps_transcript prints (line ∷ more) n (opened opening capacity)) (stopped n (opened opening capacity))

-- The transcript of some bytes, over a history with room for `capacity` entries. Each step prints the line of its outcome, its
-- line in a listing, or nothing.
unfoldable pub transcript : Prints → List ℕ → ℕ → Transcript
transcript prints bytes capacity = objects_transcript prints (lines bytes) 1 [] capacity
