use Rattle.std.proofs.Common.{◌≡◌, ◌++◌, string_bytes, take, reverse}
use Rattle.asset_reports.specs.Reports.{steps_text}
use Rattle.asset_reports.proofs.history_report.push_steps.Given as goal

-- the steps of the first entries are printed
abbrev pub invariant-entries : goal.invariant-entries
invariant-entries l = string_bytes l.text ≡ string_bytes l.fn.text ++ steps_text (reverse (take l.i (reverse l.history.entries)))
