-- What a request leaves, whether it is granted or waits.
use Rattle.std.proofs.Common.{◌≡◌, Bool, true, false, cond, List, Some, refl}
use Rattle.std.specs.Prelude.{ℤ, is_some}
use Rattle.asset_names.specs.declared.names.Txn.{Txn}
use Rattle.asset_names.specs.declared.names.Ob.{Ob}
use Rattle.asset_names.specs.declared.operations.Op.TheVariants as Op'
use Rattle.asset_names.specs.declared.steps.Step.{Step}
use Rattle.asset_names.specs.declared.steps.Step.TheVariants.{Read}
use Rattle.asset_names.specs.Steps.{Opening}
use Rattle.asset_names.specs.Endings.{live}
use Rattle.asset_objects.specs.Cells.{Cells, change_at, updated}
use Rattle.asset_deps.specs.Dependencies.{Dependency}
use Rattle.asset_permits.specs.Descriptors.{Descriptor}
use Rattle.asset_locks.specs.declared.asked.Asked.TheVariants.{Granted, Pending}
use Rattle.asset_locks.specs.LockTable as Locks
use Rattle.asset_locks.specs.Valid.{after_ask, answer_where}
use Rattle.asset_trans.specs.TransRows.{NamedTransRow}
use Rattle.asset_ends.specs.declared.updating.Update.{Update}
use Rattle.asset_ends.specs.Updates.{step_of, op_of, effect_of}
use Rattle.asset_ends.specs.Shows.{Shows, table_values}
use Rattle.asset_ends.specs.Standing.{step_if}
use Rattle.asset_ends.proofs.ShowsLemmas.{read_shows, update_shows, waiting_shows}

-- what the answer says of the object
pub granted_free : (free : Bool) → answer_where free ≡ Granted → free ≡ true
unfolding answer_where
granted_free true h = refl
granted_free false h = cc

pub pending_blocked : (free : Bool) → answer_where free ≡ Pending → free ≡ false
unfolding answer_where
pending_blocked false h = refl
pending_blocked true h = cc

-- a read that was asked for
pub read_asked_shows : (opening : Opening) (steps : List Step) (rows : List NamedTransRow) (objects : Cells) (table : Locks.LockTable) (descriptors : List Descriptor) (deps : List Dependency) (t : Txn) (x : Ob) (free : Bool) → Shows opening steps (table_values rows objects table descriptors deps)
    → live steps t.0 ≡ true → is_some (Locks.enrolled_in table t.0) ≡ true
    → Shows opening (step_if free (Read t x) steps) (table_values rows objects (after_ask free t.0 x Op'.Read table) descriptors deps)
unfolding step_if after_ask
read_asked_shows opening steps rows objects table descriptors deps t x true stand alive enrolled = read_shows opening steps rows objects table descriptors deps t x stand alive enrolled
read_asked_shows opening steps rows objects table descriptors deps t x false stand alive enrolled = waiting_shows opening steps rows objects table descriptors deps t.0 x Op'.Read stand

-- a write or an add that was asked for
pub update_asked_shows : (opening : Opening) (steps : List Step) (rows : List NamedTransRow) (objects : Cells) (table : Locks.LockTable) (descriptors : List Descriptor) (deps : List Dependency) (t : Txn) (x : Ob) (update : Update) (v : ℤ) (free : Bool) → Shows opening steps (table_values rows objects table descriptors deps)
    → live steps t.0 ≡ true → is_some (Locks.enrolled_in table t.0) ≡ true
    → Shows opening (step_if free (step_of update t x v) steps) (table_values rows (cond free (change_at x.0 (updated (Some t.0) (effect_of update v)) objects) objects) (after_ask free t.0 x (op_of update) table) descriptors deps)
unfolding step_if after_ask
update_asked_shows opening steps rows objects table descriptors deps t x update v true stand alive enrolled = update_shows opening steps rows objects table descriptors deps t x update v stand alive enrolled
update_asked_shows opening steps rows objects table descriptors deps t x update v false stand alive enrolled = waiting_shows opening steps rows objects table descriptors deps t.0 x (op_of update) stand
