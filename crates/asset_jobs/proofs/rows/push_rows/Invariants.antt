use Rattle.std.proofs.Common.{◌≡◌, ◌++◌, string_bytes, take}
use Rattle.std.specs.Prelude.{flat_map}
use Rattle.asset_jobs.specs.Texts.{row_line}
use Rattle.asset_jobs.proofs.rows.push_rows.Given as goal

-- the rows so far are printed
abbrev pub invariant-rows : goal.invariant-rows
invariant-rows l = string_bytes l.text ≡ string_bytes l.fn.text ++ flat_map row_line (take l.row-index l.rows)
