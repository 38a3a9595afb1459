use Rattle.std.proofs.Common.{◌≡◌, ◌++◌, string_bytes, take}
use Rattle.asset_reports.specs.Reports.{opening_text}
use Rattle.asset_reports.proofs.history_report.push_opening.Given as goal

-- the objects so far are printed
abbrev pub invariant-objects : goal.invariant-objects
invariant-objects l = string_bytes l.text ≡ string_bytes l.fn.text ++ opening_text (take l.given-index l.opening)
