-- The steps that change an object: a write or an add.
use Rattle.std.specs.Prelude.{ℤ}
use Rattle.asset_names.specs.declared.names.Txn.{Txn}
use Rattle.asset_names.specs.declared.names.Ob.{Ob}
use Rattle.asset_names.specs.declared.operations.Op.{Op}
use Rattle.asset_names.specs.declared.operations.Op.TheVariants as Op'
use Rattle.asset_names.specs.declared.steps.Step.{Step}
use Rattle.asset_names.specs.declared.steps.Step.TheVariants as Step'
use Rattle.asset_objects.specs.Cells.{Effect, wrote, added}
use Rattle.asset_ends.specs.declared.updating.Update.{Update}
use Rattle.asset_ends.specs.declared.updating.Update.TheVariants.{Write, Add}

-- the step that asks for the update, with the value that it writes or the amount that it adds
unfoldable pub step_of : Update → Txn → Ob → ℤ → Step
step_of Write t x v = Step'.Write t x v
step_of Add t x d = Step'.Add t x d

-- the operation that an update is
unfoldable pub op_of : Update → Op
op_of Write = Op'.Write
op_of Add = Op'.Add

-- what it does to its object
unfoldable pub effect_of : Update → ℤ → Effect
effect_of Write v = wrote v
effect_of Add d = added d
