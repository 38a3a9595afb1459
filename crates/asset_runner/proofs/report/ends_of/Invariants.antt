use Rattle.std.proofs.Common.{◌≡◌, ◌≤◌, ◌++◌, length, drop}
use Rattle.std.specs.Prelude.{vec_capacity}
use Rattle.asset_runner.specs.Runs.{ends_of}
use Rattle.asset_runner.specs.Rows.{runs_of}
use Rattle.asset_runner.proofs.report.ends_of.Given as goal

abbrev pub invariant-order : goal.invariant-order
invariant-order g l = (l.ends.items ++ ends_of (runs_of l.order) (runs_of (drop l.arrival-index l.order)) ≡ ends_of (runs_of l.order) (runs_of l.order)) × (length l.ends.items ≤ l.arrival-index) × (length l.order ≤ vec_capacity l.ends)
