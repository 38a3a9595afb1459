use Rattle.std.proofs.Common.{◌≡◌, ◌++◌, string_bytes, take}
use Rattle.asset_picture.specs.Tables.{rows_text}
use Rattle.asset_picture.proofs.table.push_rows.Given as goal

-- the rows so far are appended
abbrev pub invariant-rows : goal.invariant-rows
invariant-rows l = string_bytes l.text ≡ string_bytes l.fn.text ++ rows_text (take l.summary-index l.summaries)
