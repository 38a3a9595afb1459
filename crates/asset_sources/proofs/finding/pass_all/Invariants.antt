use Rattle.asset_sources.specs.Walked.{ShowsFirstNumbered}
use Rattle.asset_sources.proofs.finding.pass_all.Given as goal

-- the tables are past the first entries
abbrev pub invariant-entries : goal.invariant-entries
invariant-entries l = ShowsFirstNumbered l.history l.i l.tables
