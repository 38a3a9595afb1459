use Rattle.asset_lanes.specs.Walked.{ShowsFirst}
use Rattle.asset_lanes.proofs.walking.pass_all.Given as goal

-- the tables are past the first entries
abbrev pub invariant-entries : goal.invariant-entries
invariant-entries l = ShowsFirst l.history l.i l.tables
