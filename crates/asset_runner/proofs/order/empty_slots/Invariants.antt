use Rattle.std.proofs.Common.{◌≡◌, ◌≤◌}
use Rattle.std.specs.Prelude.{vec_capacity}
use Rattle.asset_runner.specs.Placing.{nones}
use Rattle.asset_runner.proofs.order.empty_slots.Given as goal

abbrev pub invariant-jobs : goal.invariant-jobs
invariant-jobs g l = (l.slots.items ≡ nones l.i) × (l.fn.jobs ≤ vec_capacity l.slots)
