-- What a line of a script says.
use Rattle.std.specs.Prelude.{◌≡◌, ℕ, ◌==◌, Bool, true, cond, nat_lt, List, [], ◌∷◌, length, Option, None, Some, option_and_then, option_map, ℤ, codes}
use Rattle.std.specs.Str.{bytes_eq}
use Rattle.asset_names.specs.declared.names.Txn.{Txn}
use Rattle.asset_names.specs.declared.names.Ob.{Ob}
use Rattle.asset_names.specs.declared.sets.ObSet.{ObSet}
use Rattle.asset_names.specs.OpSets.{OpSet}
use Rattle.asset_names.specs.declared.steps.Kind.{Kind}
use Rattle.asset_names.specs.declared.steps.Step.{Step}
use Rattle.asset_names.specs.declared.steps.Step.TheVariants as Step'
use Rattle.asset_grammar.specs.declared.keywords.Keyword.{Keyword}
use Rattle.asset_grammar.specs.declared.keywords.Keyword.TheVariants.{Initiate, Begin, Read, Write, Add, Complete, Permit, Delegate, Depend, Commit, Abort, Wait}
use Rattle.asset_grammar.specs.declared.grammar.Command.{Command}
use Rattle.asset_grammar.specs.declared.grammar.Command.TheVariants.{Object, Ask}
use Rattle.asset_grammar.specs.declared.grammar.Line.{Line}
use Rattle.asset_grammar.specs.declared.grammar.Line.TheVariants as Line'
use Rattle.asset_grammar.specs.declared.grammar.Said.{Said}
use Rattle.asset_grammar.specs.declared.grammar.Said.TheVariants as Said'
use Rattle.asset_grammar.specs.DependOperands.{kind_and_txns}
use Rattle.asset_grammar.specs.PermitOperands.{permit_step, txn_taker_ops_and_set, txns_and_set}
use Rattle.asset_grammar.specs.Words.{words, LineLeft, AtEnd}
use Rattle.asset_grammar.specs.Keywords.{keyword_of}
use Rattle.asset_grammar.specs.Operands.{object_and_value, one_txn, txn_and_object, txn_and_parent, txn_object_and_value}

-- the step that a keyword asks for with these operands
unfoldable pub step_by : Keyword → List (List ℕ) → Option Step
step_by Initiate operands = option_map (λ (a : Txn × Option Txn). Step'.Initiate a.0 a.1) (txn_and_parent operands)
step_by Begin operands = option_map Step'.Begin (one_txn operands)
step_by Read operands = option_map (λ (a : Txn × Ob). Step'.Read a.0 a.1) (txn_and_object operands)
step_by Write operands = option_map (λ (a : Txn × Ob × ℤ). Step'.Write a.0 a.1 a.2) (txn_object_and_value operands)
step_by Add operands = option_map (λ (a : Txn × Ob × ℤ). Step'.Add a.0 a.1 a.2) (txn_object_and_value operands)
step_by Complete operands = option_map Step'.Complete (one_txn operands)
step_by Permit operands = option_and_then (λ (a : (Txn × Option Txn) × (OpSet × ObSet)). permit_step a.0.0 a.0.1 a.1.0 a.1.1) (txn_taker_ops_and_set operands)
step_by Delegate operands = option_map (λ (a : (Txn × Txn) × ObSet). Step'.Delegate a.0.0 a.0.1 a.1) (txns_and_set operands)
step_by Depend operands = option_map (λ (a : Kind × (Txn × Txn)). Step'.Depend a.0 a.1.0 a.1.1) (kind_and_txns operands)
step_by Commit operands = option_map Step'.Commit (one_txn operands)
step_by Abort operands = option_map Step'.Abort (one_txn operands)
step_by Wait operands = option_map Step'.WaitFor (one_txn operands)

-- what the words of an object line say after the first one: the object and its value
unfoldable pub object_command : List (List ℕ) → Option Command
object_command operands = option_map Object (object_and_value operands)

-- what the words of a step line say: a keyword and its operands
unfoldable pub step_command : List ℕ → List (List ℕ) → Option Command
step_command word operands = option_and_then (λ keyword. option_map Ask (step_by keyword operands)) (keyword_of word)

-- What the words of a line say. The first one tells object lines from step lines.
unfoldable pub command_from : List (List ℕ) → Option Command
command_from [] = None
command_from (word ∷ operands) = cond (bytes_eq word (codes "object")) (object_command operands) (step_command word operands)

-- what a line asks
unfoldable pub command_of : List ℕ → Option Command
command_of line = command_from (words line)

-- a line says nothing: it is empty, or it begins with `#`
unfoldable pub is_blank : List ℕ → Bool
is_blank [] = true
is_blank (first ∷ rest) = first == 35

-- a line that asks something, or a bad one
unfoldable pub line_by : Option Command → Line
line_by None = Line'.Bad
line_by (Some command) = Line'.Command command

-- what a line is if it is short enough
abbrev pub any_line_of : List ℕ → Line
any_line_of line = cond (is_blank line) Line'.Blank (line_by (command_of line))

-- What a line is. One of more than 4,096 bytes is bad, whatever it begins with.
unfoldable pub line_of : List ℕ → Line
line_of line = cond (nat_lt 4096 (length line)) Line'.Bad (any_line_of line)

-- the line that an answer tells of, with the step in the slot if it asks for one
unfoldable pub said_as : Said → Step → Line
said_as Said'.Blank step = Line'.Blank
said_as (Said'.Object given) step = Line'.Command (Object given)
said_as Said'.Ask step = Line'.Command (Ask step)
said_as Said'.Bad step = Line'.Bad

-- the words were read to the end of their line, with the step in the slot if they ask for one; or they ask nothing
abbrev pub ReadsWords : LineLeft → Option Said → Step → LineLeft → Type 0
ReadsWords old None step new = command_from old.words ≡ None
ReadsWords old (Some said) step new = (line_by (command_from old.words) ≡ said_as said step) × AtEnd old new

-- the first line was read, with the step in the slot if it asks for one; or no line is left
unfoldable pub ReadsLine : List (List ℕ) → Option Said → Step → List (List ℕ) → Type 0
ReadsLine old None step new = (old ≡ []) × (new ≡ [])
ReadsLine old (Some said) step new = (line : List ℕ) × (old ≡ line ∷ new) × (line_of line ≡ said_as said step)
