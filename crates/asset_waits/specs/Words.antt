-- Words of the report, and how text is put together.
use Rattle.std.specs.Prelude.{ℕ, Bool, true, false, ◌&&◌, List, [], ◌∷◌, ◌++◌, Option, Some, None, codes}
use Rattle.std.specs.Fmt.{decimal}
use Rattle.asset_names.specs.declared.operations.Op.{Op}
use Rattle.asset_names.specs.declared.operations.Op.TheVariants.{Read, Write, Add}
use Rattle.asset_names.specs.declared.statuses.Status.{Status}
use Rattle.asset_names.specs.declared.statuses.Status.TheVariants as Status'
use Rattle.asset_names.specs.declared.steps.Step.{Step}
use Rattle.asset_names.specs.Operations.{conflict, holds}

-- pieces of text, one after another
unfoldable pub pieces : List (List ℕ) → List ℕ
pieces [] = []
pieces (piece ∷ more) = piece ++ pieces more

-- the word of a status
unfoldable pub status_word : Status → List ℕ
status_word Status'.Unknown = codes "unknown"
status_word Status'.Initiated = codes "initiated"
status_word Status'.Running = codes "running"
status_word Status'.Completed = codes "completed"
status_word Status'.Committed = codes "committed"
status_word Status'.Aborted = codes "aborted"

-- the words of an operation, before those of its object
unfoldable pub op_word : Op → List ℕ
op_word Read = codes "read"
op_word Write = codes "write"
op_word Add = codes "add to"

-- the words of operations, by whether reads, writes and adds are among them
unfoldable pub ops_words : Bool → Bool → Bool → List ℕ
ops_words true true true = codes "read, write and add"
ops_words true true false = codes "read and write"
ops_words true false true = codes "read and add"
ops_words true false false = codes "read"
ops_words false true true = codes "write and add"
ops_words false true false = codes "write"
ops_words false false true = codes "add"
ops_words false false false = []

-- the operations in conflict with op by which u holds x
unfoldable pub held_words : List Step → ℕ → ℕ → Op → List ℕ
held_words steps u x op = ops_words (holds steps u x Read && conflict Read op) (holds steps u x Write && conflict Write op) (holds steps u x Add && conflict Add op)

-- a name after a space, if there is one
unfoldable pub name_word : Option ℕ → List ℕ
name_word None = []
name_word (Some n) = codes " " ++ decimal n
