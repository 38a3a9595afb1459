use Rattle.std.proofs.Common.{◌≡◌, ◌≤◌, length}
use Rattle.std.specs.Prelude.{vec_capacity}
use Rattle.asset_sources.specs.Sourced.{sources_of}
use Rattle.asset_sources.specs.Walked.{first_entries, ShowsFirstNumbered}
use Rattle.asset_sources.proofs.finding.find_all.Given as goal

-- the tables are past the first entries, their sources are found, and there is room for all
abbrev pub invariant-entries : goal.invariant-entries
invariant-entries l = record {
  stand : ShowsFirstNumbered l.history l.i l.tables;
  found : l.found.items ≡ sources_of (first_entries l.history l.i);
  room : length l.history.entries ≤ vec_capacity l.found;
}
