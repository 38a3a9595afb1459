use Rattle.std.proofs.Common.{◌≡◌, ◌++◌, not, string_bytes, take, reverse}
use Rattle.asset_names.specs.Groups.{kept}
use Rattle.asset_deletion.specs.Grouping.{dead_in}
use Rattle.asset_reports.specs.Reports.{steps_text}
use Rattle.asset_reports.proofs.history_report.push_undead.Given as goal

-- the steps are printed of those of the first entries whose group is not dead
abbrev pub invariant-entries : goal.invariant-entries
invariant-entries l = string_bytes l.text ≡ string_bytes l.fn.text ++ steps_text (kept (λ n. not (dead_in l.groups n)) (reverse (take l.i (reverse l.history.entries))))
