use Rattle.std.proofs.Common.{◌++◌, List, ℕ, get_or, take, string_bytes, ap, ◌∙◌}
use Rattle.std.proofs.lemmas.List.{take_more, flat_map_more}
use Rattle.asset_names.specs.declared.names.Txn.{Txn}
use Rattle.asset_jobs.specs.declared.rows.JobText.{JobText}
use Rattle.asset_jobs.specs.declared.rows.JobText.TheVariants.{Committed}
use Rattle.asset_jobs.specs.Texts.{row_line}
use Rattle.asset_jobs.proofs.rows.push_rows.Goals as goal

pub rows-preserved : goal.rows-preserved
rows-preserved c =
    let rows = c.args.rows.now in
    let index = c.rows.row-index in
    let row : Txn × JobText = get_or rows index (record { 0 = 0 }, Committed) in
    rw (take_more rows index (record { 0 = 0 }, Committed) c.rows-test.true)
    (c.in_ok-push_row.ensures
    ∙ ap (λ (l : List ℕ). l ++ row_line row) c.rows.invariant
    ∙ flat_map_more row_line (string_bytes c.args.text.now) (take index rows) row)
