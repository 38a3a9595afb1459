use Rattle.std.proofs.Common.{sym, ap, ◌∙◌}
use Rattle.std.specs.List.{list_any}
use Rattle.asset_names.specs.OpSets.{has_op}
use Rattle.asset_lock_store.specs.declared.lock.Lock.{Lock}
use Rattle.asset_lock_store.specs.LockRules.{carries_on}
use Rattle.asset_locks.specs.Tied.{rows_of}
use Rattle.asset_lock_store.proofs.BlockingLemmas.{carries_at, carries_nothing}
use Rattle.asset_locks.proofs.HandLaws.{carries_own}
use Rattle.asset_locks.proofs.TableLemmas.{locks_of_seat, rows_valid, tied_inside}
use Rattle.asset_locks.proofs.table.SeatedLocks.carries.Goals as goal

pub key_on-requires : goal.key_on-requires
key_on-requires c = rw (← c.self.view_is) at c.requires.number

pub returns-in-Some : goal.returns-in-Some
returns-in-Some c =
    let inside = c.self.inside in
    let seats = c.args.seats.now in
    let t = c.args.t in
    let tied = tied_inside inside.pending.items inside.order inside.store c.args.self.now seats c.self.view_is c.requires.tied in
    let rows = rows_of seats inside.pending.items inside.order inside.store in
    let valid = rows_valid seats inside.pending.items inside.order inside.store tied c.laws-2.ensures.sound c.laws-3.ensures.stored c.laws-3.ensures.owners in
    let here = ap (λ (lock : Lock). has_op lock.ops c.args.op) c.lock.ensures in
    let there = carries_at inside.store c.laws-3.ensures.stored c.laws-3.ensures.owners t.at c.args.x.0 c.args.op c.in-Some.key c.in-Some.ensures.found.0 c.in-Some.ensures.found.1 in
    let own = carries_own rows t.t.0 c.args.x.0 c.args.op valid.names ∙ ap (list_any (carries_on c.args.x.0 c.args.op)) (locks_of_seat seats inside.pending.items inside.order inside.store tied c.laws-2.ensures.sound c.laws-3.ensures.owners t.at t.t c.requires.sits) in
    rw (← c.self.view_is) (cc (c.has.ensures, here, there, own))

pub returns-in-None : goal.returns-in-None
returns-in-None c =
    let inside = c.self.inside in
    let seats = c.args.seats.now in
    let t = c.args.t in
    let tied = tied_inside inside.pending.items inside.order inside.store c.args.self.now seats c.self.view_is c.requires.tied in
    let rows = rows_of seats inside.pending.items inside.order inside.store in
    let valid = rows_valid seats inside.pending.items inside.order inside.store tied c.laws-2.ensures.sound c.laws-3.ensures.stored c.laws-3.ensures.owners in
    rw (← c.self.view_is)
    (sym (carries_nothing inside.store c.laws-3.ensures.stored c.laws-3.ensures.owners t.at c.args.x.0 c.args.op c.in-None.ensures.none)
    ∙ sym (carries_own rows t.t.0 c.args.x.0 c.args.op valid.names ∙ ap (list_any (carries_on c.args.x.0 c.args.op)) (locks_of_seat seats inside.pending.items inside.order inside.store tied c.laws-2.ensures.sound c.laws-3.ensures.owners t.at t.t c.requires.sits)))
