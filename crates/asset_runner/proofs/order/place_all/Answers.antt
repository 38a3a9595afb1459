use Rattle.std.proofs.Common.{map, arith}
use Rattle.asset_runner.specs.Arrived.{left_at}
use Rattle.asset_runner.proofs.ArrivedLemmas.{placed_len}
use Rattle.asset_runner.proofs.order.place_all.Goals as goal

pub in_order-requires-clause-room : goal.in_order-requires-clause-room
in_order-requires-clause-room g c =
    let left = map (λ j. left_at j.place j.name j.body j.session) c.args.left.items in
    let len = placed_len c.args.jobs left c.args.rows.items c.empty_slots-slots.result.items c.put_left.new.slots.items c.put_rows.new.slots.items c.empty_slots-slots.ensures c.put_left.ensures c.put_rows.ensures in
    omega (arith, len, c.put_rows.new.slots.ok, c.requires.room.1)
