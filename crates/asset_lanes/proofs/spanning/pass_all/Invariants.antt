use Rattle.std.proofs.Common.{◌≡◌}
use Rattle.asset_sources.specs.Walked.{first_entries}
use Rattle.asset_lanes.specs.Walked.{ShowsFirst}
use Rattle.asset_lanes.specs.Lanes.{span_of}
use Rattle.asset_lanes.proofs.spanning.pass_all.Given as goal

-- the tables and the span are past the first entries
abbrev pub invariant-entries : goal.invariant-entries
invariant-entries l = record {
  stand : ShowsFirst l.history l.i l.tables;
  span : l.span ≡ span_of (first_entries l.history l.i) l.t.0;
}
