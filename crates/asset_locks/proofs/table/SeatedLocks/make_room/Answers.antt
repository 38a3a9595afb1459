use Rattle.std.proofs.Common.{refl, arith, rules}
use Rattle.asset_locks.proofs.TableLemmas.{grown_self, seated_grown, rows_grown, tied_inside}
use Rattle.asset_locks.proofs.table.SeatedLocks.make_room.Goals as goal

pub returns-in_err-add_pending-clause-rows : goal.returns-in_err-add_pending-clause-rows
returns-in_err-add_pending-clause-rows c = λ seats.
    let inside = c.self.inside in
    rw (← c.self.view_is) (rows_grown seats inside.pending.items inside.order inside.store c.add_pending.new.pending.items c.self.inside.order c.self.inside.store (record { requests = c.add_pending.ensures.same; places = c.add_pending.ensures.more; chains = λ d. refl; homes = λ k. refl; many = omega arith; keys = omega arith }) (grown_self c.self.inside.store))

pub returns-in_err-add_pending-clause-tied : goal.returns-in_err-add_pending-clause-tied
returns-in_err-add_pending-clause-tied c = λ seats tied.
    let inside = c.self.inside in
    seated_grown seats inside.pending.items inside.order inside.store c.add_pending.new.pending.items c.self.inside.order c.self.inside.store (record { requests = c.add_pending.ensures.same; places = c.add_pending.ensures.more; chains = λ d. refl; homes = λ k. refl; many = omega arith; keys = omega arith }) (grown_self c.self.inside.store) (tied_inside inside.pending.items inside.order inside.store c.args.self.now seats c.self.view_is tied)

pub returns-in_err-reserve_seat-clause-rows : goal.returns-in_err-reserve_seat-clause-rows
returns-in_err-reserve_seat-clause-rows c = λ seats.
    let inside = c.self.inside in
    rw (← c.self.view_is) (rows_grown seats inside.pending.items inside.order inside.store c.add_pending.new.pending.items c.self.inside.order c.reserve_seat.new.self (record { requests = c.add_pending.ensures.same; places = c.add_pending.ensures.more; chains = λ d. refl; homes = λ k. refl; many = omega arith; keys = omega arith }) (c.reserve_seat.ensures.grown))

pub returns-in_err-reserve_seat-clause-tied : goal.returns-in_err-reserve_seat-clause-tied
returns-in_err-reserve_seat-clause-tied c = λ seats tied.
    let inside = c.self.inside in
    seated_grown seats inside.pending.items inside.order inside.store c.add_pending.new.pending.items c.self.inside.order c.reserve_seat.new.self (record { requests = c.add_pending.ensures.same; places = c.add_pending.ensures.more; chains = λ d. refl; homes = λ k. refl; many = omega arith; keys = omega arith }) (c.reserve_seat.ensures.grown) (tied_inside inside.pending.items inside.order inside.store c.args.self.now seats c.self.view_is tied)

pub returns-clause-rows : goal.returns-clause-rows
returns-clause-rows c = λ seats.
    let inside = c.self.inside in
    rw (← c.self.view_is) (rows_grown seats inside.pending.items inside.order inside.store c.add_pending.new.pending.items c.add_to_order.new.order c.reserve_seat.new.self (record { requests = c.add_pending.ensures.same; places = c.add_pending.ensures.more; chains = c.add_to_order.ensures.chains; homes = c.add_to_order.ensures.homes; many = c.add_to_order.ensures.many; keys = c.add_to_order.ensures.keys }) (c.reserve_seat.ensures.grown))

pub returns-clause-tied : goal.returns-clause-tied
returns-clause-tied c = λ seats tied.
    let inside = c.self.inside in
    seated_grown seats inside.pending.items inside.order inside.store c.add_pending.new.pending.items c.add_to_order.new.order c.reserve_seat.new.self (record { requests = c.add_pending.ensures.same; places = c.add_pending.ensures.more; chains = c.add_to_order.ensures.chains; homes = c.add_to_order.ensures.homes; many = c.add_to_order.ensures.many; keys = c.add_to_order.ensures.keys }) (c.reserve_seat.ensures.grown) (tied_inside inside.pending.items inside.order inside.store c.args.self.now seats c.self.view_is tied)

pub returns-clause-room : goal.returns-clause-room
returns-clause-room c = search rules
