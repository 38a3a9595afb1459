use Rattle.std.proofs.Common.{sym, ap, arith}
use Rattle.std.proofs.lemmas.Bool.{true≢false}
use Rattle.asset_chains.proofs.CrossedLemmas.{room_parts, room_from}
use Rattle.asset_chains.proofs.crossed.Crossed.reserve.Goals as goal

pub returns-in_err-reserve-clause-standing : goal.returns-in_err-reserve-clause-standing
returns-in_err-reserve-clause-standing g c = λ room.
    let s = c.self.inside in
    let parts = room_parts s.slots s.rows.items s.columns.items (rw (← c.self.view_is) at room) in
    absurd (true≢false (sym (c.in_err-reserve.ensures.succeeds parts.0)))

pub returns-then-vacant_key-clause-standing : goal.returns-then-vacant_key-clause-standing
returns-then-vacant_key-clause-standing g c = λ room.
    let s = c.self.inside in
    let parts = room_parts s.slots s.rows.items s.columns.items (rw (← c.self.view_is) at room) in
    absurd (omega (arith, parts.1, c.vacant_key.ensures.value, ap (λ slab. slab.vacant_key) c.reserve.ensures.rest_kept))

pub returns-clause-room : goal.returns-clause-room
returns-clause-room g c =
    let s = c.self.inside in
    room_from c.reserve.new.self s.rows.items s.columns.items c.in_ok-reserve.ensures.room (omega (arith, c.vacant_key.ensures.value))
