-- What a script leaves: the facility after its last good line, with the number of its bad line if there is one.
use Rattle.std.specs.Prelude.{ℕ, ◌+◌, cond, List, [], ◌∷◌, Option, None, Some}
use Rattle.asset_names.specs.declared.steps.Step.{Step}
use Rattle.asset_names.specs.declared.replies.Outcome.{Outcome}
use Rattle.asset_entries.specs.Recorded.{answer_to, after, has_room}
use Rattle.asset_core.specs.Pending.{Facility, facility_of, pending_after}
use Rattle.asset_grammar.specs.declared.grammar.Command.TheVariants.{Object, Ask}
use Rattle.asset_grammar.specs.declared.grammar.Line.{Line}
use Rattle.asset_grammar.specs.declared.grammar.Line.TheVariants.{Blank, Command, Bad}
use Rattle.asset_grammar.specs.Grammar.{line_of}
use Rattle.asset_grammar.specs.Lines.{lines}
use Rattle.asset_scripts.specs.Preamble.{Beginning, no_step, first_step, bad_line, beginning}

-- the facility, and the number of the bad line at which a script ended
pub record ScriptLeft : Type 0 where
  pub facility : Facility
  pub bad : Option ℕ

-- what a script leaves, made of its two parts
abbrev pub stands : Facility → Option ℕ → ScriptLeft
stands facility bad = record { facility = facility; bad = bad }

-- the facility after a step with this outcome, if there is room for it
unfoldable pub stepped_as : Facility → Step → Outcome → Facility
stepped_as facility step outcome = cond (has_room facility.history step outcome) (record { history = after facility.history step outcome; pending = pending_after facility step outcome }) facility

-- the facility after a step of a script; one for which there is no room changes nothing
unfoldable pub stepped : Facility → Step → Facility
stepped facility step = stepped_as facility step (answer_to facility.history step)

-- what a line leaves that stands among the steps, before what the later lines leave
unfoldable pub line_left : Line → ℕ → Facility → (Facility → ScriptLeft) → ScriptLeft
line_left Blank n facility later = later facility
line_left (Command (Ask step)) n facility later = later (stepped facility step)
line_left (Command (Object object)) n facility later = stands facility (Some n)
line_left Bad n facility later = stands facility (Some n)

-- what the lines from line n on leave, among the steps
unfoldable pub steps_left : List (List ℕ) → ℕ → Facility → ScriptLeft
steps_left [] n facility = stands facility None
steps_left (line ∷ more) n facility = line_left (line_of line) n facility (λ later. steps_left more (n + 1) later)

-- what a script leaves that begins so
unfoldable pub left_begun : Beginning → ℕ → ScriptLeft
left_begun (no_step opening) capacity = stands (facility_of opening capacity) None
left_begun (first_step step more n opening) capacity = steps_left more (n + 1) (stepped (facility_of opening capacity) step)
left_begun (bad_line n opening) capacity = stands (facility_of opening capacity) (Some n)

-- what the bytes of a script leave, over a history with room for `capacity` entries
unfoldable pub left : List ℕ → ℕ → ScriptLeft
left bytes capacity = left_begun (beginning (lines bytes) 1 []) capacity
