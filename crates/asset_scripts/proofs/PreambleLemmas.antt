-- What one line does before the first step.
use Rattle.std.proofs.Common.{◌≡◌, ℕ, ◌+◌, Bool, true, false, cond, List, [], ◌∷◌, ◌++◌, refl}
use Rattle.std.specs.Prelude.{ℤ}
use Rattle.asset_names.specs.declared.names.Ob.{Ob}
use Rattle.asset_names.specs.declared.steps.Step.{Step}
use Rattle.asset_names.specs.Steps.{Opening}
use Rattle.asset_names.specs.Operations.{exists}
use Rattle.asset_grammar.specs.declared.grammar.Command.TheVariants.{Object, Ask}
use Rattle.asset_grammar.specs.declared.grammar.Line.{Line}
use Rattle.asset_grammar.specs.declared.grammar.Line.TheVariants.{Command}
use Rattle.asset_grammar.specs.declared.grammar.Line.TheVariants as Line'
use Rattle.asset_scripts.specs.declared.preamble.ObjectLine.TheVariants.{More, First, Bad}
use Rattle.asset_grammar.specs.Grammar.{line_of}
use Rattle.asset_entries.specs.Recorded.{opened}
use Rattle.asset_scripts.specs.Transcript.{objects_transcript, object_line, steps_from, steps_transcript, stopped}
use Rattle.asset_scripts.specs.Preamble.{bad_line, begun_by, beginning, transcript_begun, TakesLine}
use Rattle.asset_scripts.specs.declared.prints.Prints.{Prints}

pub takes_blank : (line : List ℕ) (step : Step) (opening : Opening) → line_of line ≡ Line'.Blank → TakesLine More step line opening opening
unfolding TakesLine beginning begun_by
takes_blank line step opening e = λ more n. rw e

-- an object that no earlier line added is added
pub object_taken : (line : List ℕ) (opening : Opening) (object : Ob × ℤ) → line_of line ≡ Line'.Command (Object object) → exists opening object.0.0 ≡ false
    → (prints : Prints) (more : List (List ℕ)) (n capacity : ℕ) → objects_transcript prints (line ∷ more) n opening capacity ≡ objects_transcript prints more (n + 1) (opening ++ object ∷ []) capacity
unfolding objects_transcript object_line
object_taken line opening object e new = λ prints more n capacity. rw (e, new)

pub takes_object : (line : List ℕ) (step : Step) (opening : Opening) (object : Ob × ℤ) → line_of line ≡ Line'.Command (Object object) → exists opening object.0.0 ≡ false → TakesLine More step line opening (opening ++ object ∷ [])
unfolding TakesLine beginning begun_by
takes_object line step opening object e new = λ more n. rw (e, new)

pub takes_double : (line : List ℕ) (step : Step) (opening : Opening) (object : Ob × ℤ) → line_of line ≡ Line'.Command (Object object) → exists opening object.0.0 ≡ true → TakesLine Bad step line opening opening
unfolding TakesLine beginning begun_by
takes_double line step opening object e there = λ more n. rw (e, there)

pub takes_step : (line : List ℕ) (step : Step) (opening : Opening) → line_of line ≡ Line'.Command (Ask step) → TakesLine First step line opening opening
unfolding TakesLine beginning begun_by
takes_step line step opening e = λ more n. rw e

pub takes_bad : (line : List ℕ) (step : Step) (opening : Opening) → line_of line ≡ Line'.Bad → TakesLine Bad step line opening opening
unfolding TakesLine beginning begun_by
takes_bad line step opening e = λ more n. rw e

-- ---- the transcript of a script, by how it begins
begun_line : (prints : Prints) (capacity : ℕ) (parsed : Line) (line : List ℕ) (more : List (List ℕ)) (n : ℕ) (opening : Opening) → line_of line ≡ parsed
    → ((later : Opening) → objects_transcript prints more (n + 1) later capacity ≡ transcript_begun prints (beginning more (n + 1) later) capacity)
    → object_line parsed opening (λ later. objects_transcript prints more (n + 1) later capacity) (steps_transcript prints (line ∷ more) n (opened opening capacity)) (stopped n (opened opening capacity))
    ≡ transcript_begun prints (begun_by parsed more n opening (λ later. beginning more (n + 1) later)) capacity
unfolding object_line begun_by transcript_begun steps_transcript steps_from
begun_line prints capacity Line'.Blank line more n opening is rest = rest opening
begun_line prints capacity (Line'.Command (Object object)) line more n opening is rest = go (exists opening object.0.0) where
  go : (there : Bool) → cond there (stopped n (opened opening capacity)) (objects_transcript prints more (n + 1) (opening ++ object ∷ []) capacity)
      ≡ transcript_begun prints (cond there (bad_line n opening) (beginning more (n + 1) (opening ++ object ∷ []))) capacity
  go true = refl
  go false = rest (opening ++ object ∷ [])
begun_line prints capacity (Line'.Command (Ask step)) line more n opening is rest = rw is refl
begun_line prints capacity Line'.Bad line more n opening is rest = refl

pub begun_transcript : (prints : Prints) (given : List (List ℕ)) (n : ℕ) (opening : Opening) (capacity : ℕ) → objects_transcript prints given n opening capacity ≡ transcript_begun prints (beginning given n opening) capacity
unfolding objects_transcript beginning transcript_begun
begun_transcript prints [] n opening capacity = refl
begun_transcript prints (line ∷ more) n opening capacity = begun_line prints capacity (line_of line) line more n opening refl (λ later. begun_transcript prints more (n + 1) later capacity)
