-- What a script leaves, by the facility, beside its run.
use Rattle.std.proofs.Common.{◌≡◌, ℕ, ◌+◌, Bool, true, false, cond, List, [], ◌∷◌, ◌++◌, Option, None, Some, refl, sym, ap, subst, ◌∙◌}
use Rattle.std.specs.Prelude.{Result, Ok, Err, OnOk, IfOk}
use Rattle.asset_names.specs.Steps.{applied}
use Rattle.asset_names.specs.declared.steps.Step.{Step}
use Rattle.asset_entries.specs.Recorded.{Recorded, answer_to, after, has_room}
use Rattle.asset_core.specs.Pending.{Facility, facility_of, pending_after}
use Rattle.asset_grammar.specs.declared.grammar.Command.TheVariants.{Object, Ask}
use Rattle.asset_grammar.specs.declared.grammar.Line.{Line}
use Rattle.asset_grammar.specs.declared.grammar.Line.TheVariants.{Blank, Command, Bad}
use Rattle.asset_grammar.specs.Grammar.{line_of}
use Rattle.asset_grammar.specs.Lines.{lines}
use Rattle.asset_printing.specs.Texts.{bad_line as bad_line_text}
use Rattle.asset_scripts.specs.declared.ends.RunEnd.{RunEnd}
use Rattle.asset_scripts.specs.declared.ends.RunEnd.TheVariants as Run'
use Rattle.asset_scripts.specs.declared.faults.ScriptFault.{ScriptFault}
use Rattle.asset_scripts.specs.declared.prints.Prints.{Prints}
use Rattle.asset_scripts.specs.Renders.{Renders}
use Rattle.asset_scripts.specs.Transcript.{Transcript, finished, stopped, with_prefix, joined_by, step_line, steps_transcript, steps_from, transcript}
use Rattle.asset_scripts.specs.Preamble.{Beginning, no_step, first_step, bad_line, beginning, transcript_begun}
use Rattle.asset_scripts.proofs.PreambleLemmas.{begun_transcript}
use Rattle.asset_standing.specs.Standing.{ScriptLeft, stepped_as, stepped, line_left, steps_left, left_begun, left}
use Rattle.asset_standing.specs.declared.standing.Stood.TheVariants.{Finished, BadLine}
use Rattle.asset_standing.specs.Stood.{stood_at, stood_of}
use Rattle.asset_standing.specs.Waited.{waited_at, waited, ReportEndsAsRun}
use Rattle.asset_waits.specs.Texts.{report_text}

-- the history after a step
stepped_history : (facility : Facility) (step : Step) → (stepped facility step).history ≡ joined_by facility.history step (answer_to facility.history step)
unfolding stepped stepped_as joined_by
stepped_history facility step = go (has_room facility.history step (answer_to facility.history step)) where
  go : (room : Bool) → (cond room (record { history = after facility.history step (answer_to facility.history step); pending = pending_after facility step (answer_to facility.history step) }) facility).history
      ≡ cond room (after facility.history step (answer_to facility.history step)) facility.history
  go true = refl
  go false = refl

-- a script that leaves this runs so
AgreesWith : ScriptLeft → Transcript → Type 0
AgreesWith standing run = ((waited_at standing.bad standing.facility).end ≡ run.end) × (standing.facility.history ≡ run.history)

-- one line among the steps
line_agrees : (prints : Prints) (parsed : Line) (n : ℕ) (facility : Facility) (leaves : Facility → ScriptLeft) (runs : Recorded → Transcript) → ((later : Facility) → AgreesWith (leaves later) (runs later.history))
    → AgreesWith (line_left parsed n facility leaves) (step_line prints parsed n facility.history runs)
unfolding AgreesWith line_left step_line with_prefix stopped waited_at
line_agrees prints Blank n facility leaves runs rest = rest facility
line_agrees prints (Command (Ask step)) n facility leaves runs rest =
    subst (λ (history : Recorded). ((waited_at (leaves (stepped facility step)).bad (leaves (stepped facility step)).facility).end ≡ (runs history).end) × ((leaves (stepped facility step)).facility.history ≡ (runs history).history))
    (stepped_history facility step) (rest (stepped facility step))
line_agrees prints (Command (Object object)) n facility leaves runs rest = (refl, refl)
line_agrees prints Bad n facility leaves runs rest = (refl, refl)

-- the lines among the steps
steps_agree : (prints : Prints) (given : List (List ℕ)) (n : ℕ) (facility : Facility) → AgreesWith (steps_left given n facility) (steps_transcript prints given n facility.history)
unfolding AgreesWith steps_left steps_transcript finished waited_at
steps_agree prints [] n facility = (refl, refl)
steps_agree prints (line ∷ more) n facility =
    line_agrees prints (line_of line) n facility (λ later. steps_left more (n + 1) later) (λ later. steps_transcript prints more (n + 1) later) (λ later. steps_agree prints more (n + 1) later)

-- a script that begins so
begun_agrees : (prints : Prints) (begun : Beginning) (capacity : ℕ) → AgreesWith (left_begun begun capacity) (transcript_begun prints begun capacity)
unfolding AgreesWith left_begun line_left transcript_begun facility_of finished stopped steps_from waited_at
begun_agrees prints (no_step opening) capacity = (refl, refl)
begun_agrees prints (first_step step more n opening) capacity =
    line_agrees prints (Command (Ask step)) n (facility_of opening capacity) (λ later. steps_left more (n + 1) later) (λ later. steps_transcript prints more (n + 1) later) (λ later. steps_agree prints more (n + 1) later)
begun_agrees prints (bad_line n opening) capacity = (refl, refl)

waited_history : (bad : Option ℕ) (facility : Facility) → (waited_at bad facility).history ≡ facility.history
unfolding waited_at stopped
waited_history None facility = refl
waited_history (Some n) facility = refl

pub ends_as_run : (prints : Prints) (bytes : List ℕ) (capacity : ℕ) → ReportEndsAsRun prints bytes capacity
unfolding waited left transcript AgreesWith
ends_as_run prints bytes capacity =
    let begun = beginning (lines bytes) 1 [] in
    let same = begun_transcript prints (lines bytes) 1 [] capacity in
    let agrees = begun_agrees prints begun capacity in
    record {
      end = agrees.0 ∙ sym (ap (λ (run : Transcript). run.end) same);
      history = waited_history (left_begun begun capacity).bad (left_begun begun capacity).facility ∙ agrees.1 ∙ sym (ap (λ (run : Transcript). run.history) same);
    }

-- ---- the report of what stands
stood_finished : (bad : Option ℕ) (facility core : Facility) → Finished core ≡ stood_at bad facility → waited_at bad facility ≡ waited_at None core
unfolding stood_at
stood_finished None facility core is = let same : core ≡ facility = cc is in ap (waited_at None) (sym same)
stood_finished (Some n) facility core is = cc is

stood_bad : (bad : Option ℕ) (facility : Facility) (n : ℕ) → BadLine n ≡ stood_at bad facility → waited_at bad facility ≡ waited_at (Some n) facility
unfolding stood_at
stood_bad None facility n is = cc is
stood_bad (Some m) facility n is = let same : n ≡ m = cc is in ap (λ (k : ℕ). waited_at (Some k) facility) (sym same)

pub renders_report : (bytes : List ℕ) (capacity : ℕ) (core : Facility) (before later : List ℕ) (result : Result RunEnd ScriptFault) → Finished core ≡ stood_of (left bytes capacity)
    → OnOk result (later ≡ before ++ report_text (applied core.history.entries) core.pending) → IfOk result (λ end. end ≡ Run'.Finished) → IfOk result (λ end. Renders before (waited bytes capacity) later end)
unfolding waited waited_at stood_of
renders_report bytes capacity core before later (Ok end) stood text ends =
    let is = stood_finished (left bytes capacity).bad (left bytes capacity).facility core stood in
    record { text = text ∙ ap (λ (run : Transcript). before ++ run.text) (sym is); ends = ends ∙ ap (λ (run : Transcript). run.end) (sym is) }
renders_report bytes capacity core before later (Err fault) stood text ends = tt

pub renders_bad : (bytes : List ℕ) (capacity n : ℕ) (before later : List ℕ) → BadLine n ≡ stood_of (left bytes capacity) → later ≡ before ++ bad_line_text n → Renders before (waited bytes capacity) later (Run'.BadLine n)
unfolding waited waited_at stood_of stopped
renders_bad bytes capacity n before later stood text =
    let is = stood_bad (left bytes capacity).bad (left bytes capacity).facility n stood in
    record { text = text ∙ ap (λ (run : Transcript). before ++ run.text) (sym is); ends = ap (λ (run : Transcript). run.end) (sym is) }
