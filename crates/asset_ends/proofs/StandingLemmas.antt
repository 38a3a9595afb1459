-- What the tables' own calls say, put together.
use Rattle.std.proofs.Common.{◌≡◌, ℕ, List, refl, ◌∙◌, ap, Some, None, Ok, Err, OnErr}
use Rattle.std.specs.Prelude.{Option, Result, is_some, option_map, ℤ}
use Rattle.asset_names.specs.declared.steps.Step.{Step}
use Rattle.asset_names.specs.Steps.{Opening}
use Rattle.asset_names.specs.Endings.{end_of}
use Rattle.asset_names.specs.Operations.{exists, opening_at, operations}
use Rattle.asset_deps.specs.Dependencies.{Dependency}
use Rattle.asset_permits.specs.Descriptors.{Descriptor, one_covers, opens}
use Rattle.asset_objects.specs.Cells.{Cells, cells, has_object}
use Rattle.asset_locks.specs.LockTable as Locks
use Rattle.asset_trans.specs.TransRows.{NamedTransRow}
use Rattle.asset_ends.specs.Shows.{Shows, cell_of, cell_after, table_values}
use Rattle.asset_ends.specs.Standing.{Standing, values_of, SameView, SameViewInAnyOrder}

-- what holds where a call succeeded, of what held there

pub always_err : {T E : Type 0} {P : Type 0} (r : Result T E) → P → OnErr r P
always_err (Ok x) p = tt
always_err (Err e) p = p

-- tables that show the same do so in any order
pub same_alike : (later before : Standing) → SameView later before → SameViewInAnyOrder later before
same_alike later before same = record { rows = same.rows; objects = same.objects; numbers = same.numbers; locks = same.locks; permits = λ u t x op. ap (λ descriptors. one_covers descriptors u t x op) same.permits; openers = λ u x op. ap (λ descriptors. opens descriptors u x op) same.permits; deps = same.deps }

-- tables that are as others are stand for what the others do
pub stand_as : (opening : Opening) (steps : List Step) (later : Standing) (rows : List NamedTransRow) (objects : Cells) (table : Locks.LockTable) (descriptors : List Descriptor) (deps : List Dependency) → later.trans ≡ rows → cells later.objects ≡ objects → later.locks ≡ table
    → later.permits ≡ descriptors → later.deps ≡ deps → Shows opening steps (table_values rows objects table descriptors deps) → Shows opening steps (values_of later)
stand_as opening steps later rows objects table descriptors deps r o l p d shows = rw (r, o, l, p, d) shows

-- which objects exist, by the cells
pub object_exists : (opening : Opening) (steps : List Step) (tables : Standing) (x : ℕ) → Shows opening steps (values_of tables) → has_object (cells tables.objects) x ≡ exists opening x
unfolding has_object cell_of exists
object_exists opening steps tables x stand = ap is_some (stand.cells x) ∙ go (opening_at opening x) where
  go : (first : Option ℤ) → is_some (option_map (λ v. cell_after (end_of steps) x v (operations steps)) first) ≡ is_some first
  go None = refl
  go (Some v) = refl
