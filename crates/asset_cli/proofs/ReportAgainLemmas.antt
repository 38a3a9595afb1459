-- The script that a report prints runs again.
use Rattle.std.proofs.Common.{◌≡◌, ℕ, ◌+◌, Bool, true, false, cond, List, [], ◌∷◌, ◌++◌, refl, sym, ◌∙◌}
use Rattle.asset_names.specs.declared.steps.Step.{Step}
use Rattle.asset_names.specs.declared.replies.Outcome.{Outcome}
use Rattle.asset_names.specs.Steps.{Opening}
use Rattle.asset_names.specs.Operations.{exists}
use Rattle.asset_names.specs.Groups.{without}
use Rattle.asset_entries.specs.Recorded.{Recorded, opened, answer_to, has_room}
use Rattle.asset_history.specs.Named.{names_of}
use Rattle.asset_laws.specs.Serial.{serial, shares_nothing}
use Rattle.asset_laws.proofs.GroupLemmas.{without_legal}
use Rattle.asset_laws.proofs.SerialLemmas.{serial_legal}
use Rattle.asset_serial.proofs.AnsweredLemmas.{sharing_law}
use Rattle.asset_grammar.specs.declared.grammar.Command.TheVariants.{Ask, Object}
use Rattle.asset_grammar.specs.declared.grammar.Line.{Line}
use Rattle.asset_grammar.specs.declared.grammar.Line.TheVariants.{Blank, Command, Bad}
use Rattle.asset_grammar.specs.Grammar.{line_of}
use Rattle.asset_grammar.specs.Lines.{lines}
use Rattle.asset_reports.specs.Reports.{pruned_text, serial_text}
use Rattle.asset_scripts.specs.declared.ends.RunEnd.{RunEnd}
use Rattle.asset_scripts.specs.declared.ends.RunEnd.TheVariants.{Finished, BadLine, Shared}
use Rattle.asset_scripts.specs.Transcript.{Transcript, finished, stopped, with_prefix, answered_text, full_text, printed, joined_by, step_line, steps_transcript, object_line, objects_transcript, transcript}
use Rattle.asset_scripts.specs.declared.prints.Prints.TheVariants.{Nothing}
use Rattle.asset_cli.specs.Reporting.{Reported, pruned, reported, serialized, with_report}
use Rattle.asset_cli.specs.Again.{RunsAgain, PrunedRunsAgain, SerialRunsAgain}
use Rattle.asset_cli.proofs.AgainLemmas.{history_again}
use Rattle.asset_cli.proofs.LeftLemmas.{left_sound}
use Rattle.asset_cli.proofs.WritableLemmas.{serial_writable, without_writable}

-- a run that prints nothing and looks at every line has no text
abbrev IsQuiet : Transcript → Type 0
IsQuiet all = all.end ≡ Finished → all.text ≡ []

-- a quiet step prints nothing
quiet_step : (n : ℕ) (h : Recorded) (step : Step) (outcome : Outcome) → printed Nothing n h step outcome ≡ []
unfolding printed answered_text full_text
quiet_step n h step outcome = go (has_room h step outcome) where
  go : (room : Bool) → cond {A = List ℕ} room [] [] ≡ []
  go true = refl
  go false = refl

steps_quiet : (ls : List (List ℕ)) (n : ℕ) (h : Recorded) → IsQuiet (steps_transcript Nothing ls n h)
unfolding steps_transcript finished step_line with_prefix stopped
steps_quiet [] n h = finished_quiet where
  finished_quiet : IsQuiet (finished h)
  finished_quiet = λ e. refl
steps_quiet (line ∷ more) n h = go (line_of line) (λ later. steps_quiet more (n + 1) later) where
  go : (said : Line) → ((later : Recorded) → IsQuiet (steps_transcript Nothing more (n + 1) later)) → IsQuiet (step_line Nothing said n h (λ later. steps_transcript Nothing more (n + 1) later))
  go Blank later = later h
  go (Command (Ask step)) later = rw (quiet_step n h step (answer_to h step)) (later (joined_by h step (answer_to h step)))
  go (Command (Object given)) later = λ e. absurd (cc)
  go Bad later = λ e. absurd (cc)

objects_quiet : (ls : List (List ℕ)) (n : ℕ) (opening : Opening) (capacity : ℕ) → IsQuiet (objects_transcript Nothing ls n opening capacity)
unfolding objects_transcript finished object_line stopped
objects_quiet [] n opening capacity = finished_quiet where
  finished_quiet : IsQuiet (finished (opened opening capacity))
  finished_quiet = λ e. refl
objects_quiet (line ∷ more) n opening capacity = go (line_of line) (λ later. objects_quiet more (n + 1) later capacity) where
  go : (said : Line) → ((later : Opening) → IsQuiet (objects_transcript Nothing more (n + 1) later capacity))
      → IsQuiet (object_line said opening (λ later. objects_transcript Nothing more (n + 1) later capacity) (steps_transcript Nothing (line ∷ more) n (opened opening capacity)) (stopped n (opened opening capacity)))
  go Blank later = later opening
  go (Command (Ask step)) later = steps_quiet (line ∷ more) n (opened opening capacity)
  go Bad later = λ e. absurd (cc)
  go (Command (Object given)) later = choose (exists opening given.0.0) where
    choose : (there : Bool) → IsQuiet (cond there (stopped n (opened opening capacity)) (objects_transcript Nothing more (n + 1) (opening ++ given ∷ []) capacity))
    choose true = λ e. absurd (cc)
    choose false = later (opening ++ given ∷ [])

quiet : (bytes : List ℕ) (capacity : ℕ) → IsQuiet (transcript Nothing bytes capacity)
unfolding transcript
quiet bytes capacity = objects_quiet (lines bytes) 1 [] capacity

-- what holds of the text of a report holds of what is written, if every line was looked at
written : (P : List ℕ → Type 0) (run : Transcript) (report : Reported) → IsQuiet run → (report.end ≡ Finished → P report.text)
    → (with_report run.end run report).end ≡ Finished → P (with_report run.end run report).text
unfolding with_report
written P run report none holds = go run.end refl where
  go : (end : RunEnd) → run.end ≡ end → (with_report end run report).end ≡ Finished → P (with_report end run report).text
  go Finished e h = rw (none e) (holds h)
  go (BadLine n) e h = let bad : BadLine n ≡ Finished = sym e ∙ h in absurd (cc)
  go Shared e h = let bad : Shared ≡ Finished = sym e ∙ h in absurd (cc)

pub pruned_again : (bytes : List ℕ) (capacity : ℕ) → PrunedRunsAgain bytes capacity
unfolding reported pruned_text
pruned_again bytes capacity =
    let run = transcript Nothing bytes capacity in
    let sound = left_sound Nothing bytes capacity in
    let entries = run.history.entries in
    written (λ text. RunsAgain text run.history.opening (without entries (names_of entries))) run (pruned run.history) (quiet bytes capacity) (λ e.
    history_again run.history.opening (without entries (names_of entries)) sound.written sound.different (without_writable entries (names_of entries) sound.writable) (without_legal run.history.opening entries (names_of entries) sound.legal))

-- there is a serial history
nothing_shared : (b : Bool) → cond b Finished Shared ≡ Finished → b ≡ true
nothing_shared true e = refl
nothing_shared false e = absurd (cc)

pub serial_again : (bytes : List ℕ) (capacity : ℕ) → SerialRunsAgain bytes capacity
unfolding reported serial_text
serial_again bytes capacity =
    let run = transcript Nothing bytes capacity in
    let sound = left_sound Nothing bytes capacity in
    let entries = run.history.entries in
    written (λ text. RunsAgain text run.history.opening (serial entries)) run (serialized run.history) (quiet bytes capacity) (λ e.
    let alone = nothing_shared (shares_nothing entries) e in
    rw alone (history_again run.history.opening (serial entries) sound.written sound.different (serial_writable entries sound.writable) (serial_legal run.history.opening entries sound.legal ((sharing_law entries).0 alone))))
