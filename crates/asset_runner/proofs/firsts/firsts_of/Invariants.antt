use Rattle.std.proofs.Common.{◌≤◌, length, drop}
use Rattle.indexmap.specs.IndexMap.{spare}
use Rattle.asset_runner.specs.Firsts.{HasFirsts}
use Rattle.asset_runner.specs.Rows.{runs_of}
use Rattle.asset_runner.proofs.firsts.firsts_of.Given as goal

abbrev pub invariant-places : goal.invariant-places
invariant-places g l = HasFirsts l.firsts l.place (runs_of (drop l.place l.order)) × (l.place ≤ length l.order) × (l.place ≤ spare l.firsts)

abbrev pub decreases-places : goal.decreases-places
decreases-places g l = l.place
