-- What one line adds to the text, and how a text ends.
use Rattle.std.proofs.Common.{◌≡◌, ℕ, ◌+◌, List, [], ◌∷◌, ◌++◌, refl, sym, ◌∙◌, append_assoc, append-nil, Some, None}
use Rattle.std.specs.Prelude.{ℤ, Option}
use Rattle.asset_names.specs.declared.names.Ob.{Ob}
use Rattle.asset_names.specs.declared.steps.Step.{Step}
use Rattle.asset_entries.specs.Recorded.{Recorded, answer_to}
use Rattle.asset_grammar.specs.declared.grammar.Command.TheVariants.{Object, Ask}
use Rattle.asset_grammar.specs.declared.grammar.Line.TheVariants.{Blank, Command, Bad}
use Rattle.asset_scripts.specs.declared.ends.RunEnd.{RunEnd}
use Rattle.asset_grammar.specs.Grammar.{line_of}
use Rattle.asset_printing.specs.Texts.{bad_line}
use Rattle.asset_scripts.specs.Transcript.{Transcript, joined_by, steps_from, steps_transcript, step_line, printed, with_prefix, finished, stopped}
use Rattle.asset_scripts.specs.Renders.{end_at}
use Rattle.asset_scripts.specs.declared.prints.Prints.{Prints}
use Rattle.asset_cli.specs.declared.rendering.Played.TheVariants as Played'
use Rattle.asset_cli.specs.Rendering.{RendersOn, RendersToEnd, IsLeftBy, Plays, played_of}

pub blank_goes_on : (prints : Prints) (before line : List ℕ) (more : List (List ℕ)) (n : ℕ) (h : Recorded) → line_of line ≡ Blank
    → RendersOn before (steps_transcript prints (line ∷ more) n h) before (steps_transcript prints more (n + 1) h)
unfolding steps_transcript step_line
blank_goes_on prints before line more n h e = rw e (record { text = refl; end = refl; history = refl })

-- a step prints its line or nothing, and the lines after it go on
pub step_goes_on : (prints : Prints) (before after : List ℕ) (more : List (List ℕ)) (n : ℕ) (h h' : Recorded) (step : Step)
    → after ≡ before ++ printed prints n h step (answer_to h step) → h' ≡ joined_by h step (answer_to h step)
    → RendersOn before (steps_from prints step more n h) after (steps_transcript prints more (n + 1) h')
unfolding steps_from step_line with_prefix
step_goes_on prints before after more n h h' step wrote joined = rw (wrote, joined) (record { text = sym (append_assoc before _ _); end = refl; history = refl })

pub ask_goes_on : (prints : Prints) (before after line : List ℕ) (more : List (List ℕ)) (n : ℕ) (h h' : Recorded) (step : Step) → line_of line ≡ Command (Ask step)
    → after ≡ before ++ printed prints n h step (answer_to h step) → h' ≡ joined_by h step (answer_to h step)
    → RendersOn before (steps_transcript prints (line ∷ more) n h) after (steps_transcript prints more (n + 1) h')
unfolding steps_transcript step_line with_prefix
ask_goes_on prints before after line more n h h' step e wrote joined = rw (e, wrote, joined) (record { text = sym (append_assoc before _ _); end = refl; history = refl })

pub object_ends : (prints : Prints) (before after line : List ℕ) (more : List (List ℕ)) (n : ℕ) (h : Recorded) (object : Ob × ℤ) → line_of line ≡ Command (Object object)
    → after ≡ before ++ bad_line n → RendersToEnd before (steps_transcript prints (line ∷ more) n h) after (end_at (Some n)) h
unfolding steps_transcript step_line stopped end_at
object_ends prints before after line more n h object e wrote = rw e (record { text = wrote; ends = refl; history = refl })

pub bad_ends : (prints : Prints) (before after line : List ℕ) (more : List (List ℕ)) (n : ℕ) (h : Recorded) → line_of line ≡ Bad → after ≡ before ++ bad_line n
    → RendersToEnd before (steps_transcript prints (line ∷ more) n h) after (end_at (Some n)) h
unfolding steps_transcript step_line stopped end_at
bad_ends prints before after line more n h e wrote = rw e (record { text = wrote; ends = refl; history = refl })

-- a part of a transcript, and then the rest to its end
pub ends_later : (before mid after : List ℕ) (all rest : Transcript) (end : RunEnd) (left : Recorded) → RendersOn before all mid rest → RendersToEnd mid rest after end left → RendersToEnd before all after end left
ends_later before mid after all rest end left first then = record { text = then.text ∙ sym first.text; ends = then.ends ∙ sym first.end; history = then.history ∙ sym first.history }

pub goes_on_later : (before mid after : List ℕ) (all some rest : Transcript) → RendersOn before all mid some → RendersOn mid some after rest → RendersOn before all after rest
goes_on_later before mid after all some rest first then = record { text = first.text ∙ then.text; end = first.end ∙ then.end; history = first.history ∙ then.history }

-- no line is left
pub none_ends : (prints : Prints) (before : List ℕ) (n : ℕ) (h : Recorded) → RendersToEnd before (steps_transcript prints [] n h) before (end_at None) h
unfolding steps_transcript finished end_at
none_ends prints before n h = record { text = sym (append-nil before); ends = refl; history = refl }

-- a bad line ends the run before the first step
pub stopped_plays : (before after : List ℕ) (n : ℕ) (history : Recorded) → after ≡ before ++ bad_line n → Plays before (stopped n history) after (Played'.BadLine n)
unfolding stopped IsLeftBy
stopped_plays before after n history wrote = record { text = wrote; left = refl }

-- the steps end, with every line looked at or at a bad line
pub ended_plays : (before after : List ℕ) (all : Transcript) (history : Recorded) (bad : Option ℕ) → RendersToEnd before all after (end_at bad) history → Plays before all after (played_of history bad)
unfolding IsLeftBy end_at played_of
ended_plays before after all history None ends = record { text = ends.text; left = (sym ends.ends, ends.history) }
ended_plays before after all history (Some n) ends = record { text = ends.text; left = sym ends.ends }

-- no step is there
pub finished_plays : (before : List ℕ) (history left : Recorded) → left ≡ history → Plays before (finished history) before (played_of left None)
unfolding finished end_at
finished_plays before history left e = ended_plays before before (finished history) left None (record { text = sym (append-nil before); ends = refl; history = e })
