-- A session as callers see it.
use Rattle.std.specs.Prelude.{Option}
use Rattle.atomic_table.specs.Seated.{TableId}
use Rattle.asset_names.specs.declared.counts.Counts.{Counts}
use Rattle.asset_manager.specs.Listed.{Listed}

-- the manager's word, once the session knows it, the counts that it saw last, and its recorded calls
pub record Asker : Type 0 where
  pub of : Option TableId
  pub seen : Counts
  pub list : Listed
