-- What a check of a script comes to.
use Rattle.std.specs.Prelude.{ℕ, ℤ, ◌+◌, cond, List, [], ◌∷◌, ◌++◌, Option, None, Some, is_some}
use Rattle.asset_names.specs.declared.names.Ob.{Ob}
use Rattle.asset_names.specs.Steps.{Opening}
use Rattle.asset_names.specs.Operations.{exists}
use Rattle.asset_entries.specs.Recorded.{opened}
use Rattle.asset_grammar.specs.declared.grammar.Command.TheVariants.{Object, Ask}
use Rattle.asset_grammar.specs.declared.grammar.Line.{Line}
use Rattle.asset_grammar.specs.declared.grammar.Line.TheVariants.{Blank, Command, Bad}
use Rattle.asset_grammar.specs.Grammar.{line_of}
use Rattle.asset_grammar.specs.Lines.{lines}
use Rattle.asset_grammar.specs.Words.{words}
use Rattle.asset_scripts.specs.Renders.{end_at}
use Rattle.asset_scripts.specs.Transcript.{Transcript}
use Rattle.asset_reasons.specs.declared.reasons.Reason.TheVariants.{ObjectAfterStep, GivenTwice}
use Rattle.asset_reasons.specs.Mistakes.{Found, reason_of, second_word}
use Rattle.asset_check.specs.Sentences.{mistake_line}

-- what later lines depend on: the objects so far, or nothing once a step was asked for
abbrev pub Seen : Type 0
Seen = Option Opening

-- why an object line is bad where it stands: it comes after a step, or an earlier line adds the same object
unfoldable pub object_mistake : Seen → Ob → List ℕ → Option Found
object_mistake None x line = Some (ObjectAfterStep, [])
object_mistake (Some opening) x line = cond (exists opening x.0) (Some (GivenTwice, second_word (words line))) None

-- why a line that says this is bad where it stands, if it is
unfoldable pub mistake_in : Seen → Line → List ℕ → Option Found
mistake_in seen Blank line = None
mistake_in seen (Command (Ask step)) line = None
mistake_in seen (Command (Object given)) line = object_mistake seen given.0 line
mistake_in seen Bad line = reason_of line

-- why a line is bad where it stands, if it is
abbrev pub mistake_at : Seen → List ℕ → Option Found
mistake_at seen line = mistake_in seen (line_of line) line

-- the objects after an object line, which is not taken if it is bad where it stands
unfoldable pub seen_object : Seen → Ob × ℤ → Seen
seen_object None given = None
seen_object (Some opening) given = Some (cond (exists opening given.0.0) opening (opening ++ given ∷ []))

-- what later lines depend on after a line that says this
unfoldable pub seen_by : Seen → Line → Seen
seen_by seen Blank = seen
seen_by seen (Command (Ask step)) = None
seen_by seen (Command (Object given)) = seen_object seen given
seen_by seen Bad = seen

-- a line for each bad one, from line n on
unfoldable pub check_lines : List (List ℕ) → ℕ → Seen → List ℕ
check_lines [] n seen = []
check_lines (line ∷ more) n seen = mistake_line n (mistake_at seen line) ++ check_lines more (n + 1) (seen_by seen (line_of line))

-- the number of the first bad line, from line n on
unfoldable pub first_bad : List (List ℕ) → ℕ → Seen → Option ℕ
first_bad [] n seen = None
first_bad (line ∷ more) n seen = cond (is_some (mistake_at seen line)) (Some n) (first_bad more (n + 1) (seen_by seen (line_of line)))

-- What a check of some bytes prints, and how it ends. It asks for no step, so the history that it leaves is empty.
unfoldable pub checked : List ℕ → Transcript
checked bytes = record { text = check_lines (lines bytes) 1 (Some []); end = end_at (first_bad (lines bytes) 1 (Some [])); history = opened [] 0 }
