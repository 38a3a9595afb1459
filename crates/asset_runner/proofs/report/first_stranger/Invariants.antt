use Rattle.std.proofs.Common.{◌≡◌, drop}
use Rattle.asset_runner.specs.Runs.{first_stranger}
use Rattle.asset_runner.specs.Rows.{runs_of}
use Rattle.asset_runner.proofs.report.first_stranger.Given as goal

abbrev pub invariant-order : goal.invariant-order
invariant-order g l = first_stranger (runs_of (drop l.arrival-index l.order)) ≡ first_stranger (runs_of l.order)
