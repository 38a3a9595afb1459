-- How a script begins: the lines before its first step.
use Rattle.std.specs.Prelude.{◌≡◌, ℕ, ◌+◌, cond, List, [], ◌∷◌, ◌++◌}
use Rattle.asset_names.specs.declared.steps.Step.{Step}
use Rattle.asset_names.specs.Steps.{Opening}
use Rattle.asset_names.specs.Operations.{exists}
use Rattle.asset_entries.specs.Recorded.{opened}
use Rattle.asset_grammar.specs.declared.grammar.Command.TheVariants.{Object, Ask}
use Rattle.asset_grammar.specs.declared.grammar.Line.{Line}
use Rattle.asset_grammar.specs.declared.grammar.Line.TheVariants as Line'
use Rattle.asset_grammar.specs.Grammar.{line_of}
use Rattle.asset_scripts.specs.declared.preamble.ObjectLine.{ObjectLine}
use Rattle.asset_scripts.specs.declared.preamble.ObjectLine.TheVariants.{More, First, Bad}
use Rattle.asset_scripts.specs.Transcript.{Transcript, steps_from, stopped, finished}
use Rattle.asset_scripts.specs.declared.prints.Prints.{Prints}

-- how a script begins, with the objects that its lines add: it has no step, or here are its first step, the lines after it and
-- the number of its line, or the line of this number is bad
pub data Beginning : Type 0 where
  no_step : Opening → Beginning
  first_step : Step → List (List ℕ) → ℕ → Opening → Beginning
  bad_line : ℕ → Opening → Beginning

-- what a line says of how a script begins, before what the later lines say: a line of an object adds it, if no earlier line did
unfoldable pub begun_by : Line → List (List ℕ) → ℕ → Opening → (Opening → Beginning) → Beginning
begun_by Line'.Blank more n opening later = later opening
begun_by (Line'.Command (Object object)) more n opening later = cond (exists opening object.0.0) (bad_line n opening) (later (opening ++ object ∷ []))
begun_by (Line'.Command (Ask step)) more n opening later = first_step step more n opening
begun_by Line'.Bad more n opening later = bad_line n opening

-- how the lines from line n on begin, over the objects of the earlier ones
unfoldable pub beginning : List (List ℕ) → ℕ → Opening → Beginning
beginning [] n opening = no_step opening
beginning (line ∷ more) n opening = begun_by (line_of line) more n opening (λ later. beginning more (n + 1) later)

-- how a script begins whose object lines end at line n: at the first step, at a bad line, or at no line at all
unfoldable pub begun_at : ObjectLine → Step → List (List ℕ) → ℕ → Opening → Beginning
begun_at More step more n opening = no_step opening
begun_at First step more n opening = first_step step more n opening
begun_at Bad step more n opening = bad_line n opening

-- the transcript of a script that begins so
unfoldable pub transcript_begun : Prints → Beginning → ℕ → Transcript
transcript_begun prints (no_step opening) capacity = finished (opened opening capacity)
transcript_begun prints (first_step step more n opening) capacity = steps_from prints step more n (opened opening capacity)
transcript_begun prints (bad_line n opening) capacity = stopped n (opened opening capacity)

-- the transcript from the line n at which the object lines end: the first step, a bad line, or no line at all
unfoldable pub transcript_from : Prints → ObjectLine → Step → List (List ℕ) → ℕ → Opening → ℕ → Transcript
transcript_from prints line step more n opening capacity = transcript_begun prints (begun_at line step more n opening) capacity

-- a line that is taken leaves the later lines with the new opening; the first step and a bad line end the object lines
unfoldable pub TakesLine : ObjectLine → Step → List ℕ → Opening → Opening → Type 0
TakesLine More step line old new = (more : List (List ℕ)) (n : ℕ) → beginning (line ∷ more) n old ≡ beginning more (n + 1) new
TakesLine First step line old new = (more : List (List ℕ)) (n : ℕ) → beginning (line ∷ more) n old ≡ first_step step more n new
TakesLine Bad step line old new = (more : List (List ℕ)) (n : ℕ) → beginning (line ∷ more) n old ≡ bad_line n new
