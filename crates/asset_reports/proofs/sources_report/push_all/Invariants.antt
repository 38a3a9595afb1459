use Rattle.std.proofs.Common.{◌≡◌, ◌++◌, string_bytes, take, reverse}
use Rattle.asset_reports.specs.Sources.{sources_text}
use Rattle.asset_reports.proofs.sources_report.push_all.Given as goal

-- the sources of the first entries are printed, and the walk has passed them
abbrev pub invariant-entries : goal.invariant-entries
invariant-entries l = record {
  printed : string_bytes l.text ≡ string_bytes l.fn.text ++ sources_text (reverse (take l.i (reverse l.fn.walk.history.entries)));
  history : l.walk.history ≡ l.fn.walk.history;
  passed : l.walk.passed ≡ l.i;
}
