use Rattle.std.proofs.Common.{◌∙◌}
use Rattle.indexmap.proofs.CallerLemmas.{insert_entry-new}
use Rattle.asset_trans.specs.TransRows.{row_in, initiate_in}
use Rattle.asset_trans.proofs.TransRowLemmas.{same}
use Rattle.asset_trans.proofs.table.add_row.Goals as goal
use Rattle.asset_trans.proofs.table.add_row.Goals.{in-Ok, in-Err}

pub returns-clause-added : goal.returns-clause-added
unfolding row_in initiate_in
returns-clause-added c = elim c.match-insert.branch [
  | in-Ok w ↦ rw w.added-is (w.in-Ok.ensures.entries ∙ insert_entry-new same c.args.rows.now c.args.t _ c.requires.absent)
  | in-Err w ↦ rw w.added-is tt
]
