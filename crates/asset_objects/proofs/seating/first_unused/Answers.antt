use Rattle.std.proofs.Common.{arith}
use Rattle.asset_objects.proofs.seating.first_unused.Goals as goal

pub unreachable-requires : goal.unreachable-requires
unreachable-requires c = omega (arith, c.few_seats.ensures.few c.args.seats (λ d within. c.seats.invariant d (omega (arith, within, c.seats-test.false))), c.requires)
