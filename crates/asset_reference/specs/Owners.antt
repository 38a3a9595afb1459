-- Operations, each with the one who is responsible for it after later entries.
use Rattle.std.specs.Prelude.{ℕ, cond, ◌==◌, ◌&&◌, List, [], ◌∷◌, map, take, drop, reverse, Option, None, Some}
use Rattle.asset_names.specs.declared.steps.Step.{Step}
use Rattle.asset_names.specs.declared.steps.Step.TheVariants.{Delegate}
use Rattle.asset_names.specs.InSet.{in_set}
use Rattle.asset_names.specs.Steps.{Entry, takes_effect, applied}
use Rattle.asset_names.specs.Operations.{Operation, Use, operations}
use Rattle.asset_names.specs.Operations.Use.{reads, writes, adds}
use Rattle.asset_reference.specs.declared.operating.Operated.{Operated}
use Rattle.asset_reference.specs.declared.operating.Used.{Used}
use Rattle.asset_reference.specs.declared.operating.Used.TheVariants as Used'

-- who is responsible after a step that took effect for an operation on x that was the owner's: a delegation by the
-- owner of a set with x hands it to its taker
unfoldable pub handed_by : Step → ℕ → ℕ → ℕ
handed_by (Delegate giver taker obs) owner x = cond (owner == giver.0 && in_set obs x) taker.0 owner
handed_by step owner x = owner

-- the same after an entry, whose step may have taken no effect
unfoldable pub handed_at : Entry → ℕ → ℕ → ℕ
handed_at entry owner x = cond (takes_effect entry.0 entry.1) (handed_by entry.0 owner x) owner

-- who is responsible after the later entries, oldest first
unfoldable pub responsible : List Entry → ℕ → ℕ → ℕ
responsible [] owner x = owner
responsible (entry ∷ later) owner x = responsible later (handed_at entry owner x) x

-- the operation with the one who is responsible for it after the later entries
unfoldable pub owned_now : List Entry → Operation → Operation
owned_now later o = record o { owner = responsible later o.owner o.object }

-- the operations of the first entries of a number, newest first, each with the one who is responsible for it after
-- all entries
unfoldable pub operated_within : List Entry → ℕ → List Operation
operated_within entries count = map (owned_now (drop count entries)) (operations (applied (reverse (take count entries))))

-- what an operation does, as the definitions have it
unfoldable pub use_by : Used → Use
use_by Used'.Reads = reads
use_by (Used'.Writes v) = writes v
use_by (Used'.Adds d) = adds d

-- the operation as the definitions have it
unfoldable pub operation_of : Operated → Operation
operation_of o = record { owner = o.owner.0; object = o.x.0; use_of = use_by o.used }

-- the operation, if there is one
unfoldable pub listed : Option Operated → List Operation
listed None = []
listed (Some o) = operation_of o ∷ []
