use Rattle.std.proofs.Common.{◌≡◌, ◌≤◌, ◌++◌, vec_len}
use Rattle.std.specs.Prelude.{vec_capacity}
use Rattle.asset_runner.specs.Placing.{somes}
use Rattle.asset_runner.proofs.order.in_order.Given as goal

abbrev pub invariant-slots : goal.invariant-slots
invariant-slots g l = (l.order.items ≡ somes l.yielded) × (l.yielded ++ l.slot-iterator.rest.items ≡ l.fn.slots.items) × (vec_len l.fn.slots ≤ vec_capacity l.order)
