use Rattle.std.proofs.Common.{string_bytes, sym, append-nil}
use Rattle.asset_picture.specs.Tables.{row_for, rows_text}
use Rattle.asset_names.proofs.MoreLemmas.{text_more}
use Rattle.asset_picture.proofs.table.push_rows.Goals as goal

pub rows-init : goal.rows-init
unfolding rows_text
rows-init c = sym (append-nil (string_bytes c.args.text.now))

pub rows-preserved : goal.rows-preserved
unfolding rows_text
rows-preserved c =
    text_more row_for c.args.summaries.now c.rows.summary-index _ (string_bytes c.args.text.now) (string_bytes c.rows.text) _ c.rows-test.true c.rows.invariant c.in_ok-push_row_for.ensures
