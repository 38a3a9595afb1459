use Rattle.std.proofs.Common.{◌≡◌, ℕ, true, Some, sym, subst}
use Rattle.asset_lists.specs.declared.part.Section.{Section}
use Rattle.asset_lists.specs.declared.part.Section.TheVariants.{Middle, Back}
use Rattle.asset_lists.specs.Parted.{part_of, IsAt, AreKeys, AreKeysUpTo}
use Rattle.asset_lock_store.specs.declared.looking.Look.{Look}
use Rattle.asset_lock_store.specs.Stored.{Stored, part_for}
use Rattle.asset_lock_store.specs.Looked.{looks_at, look_with, IsLook}
use Rattle.asset_lock_store.proofs.WalkLemmas.{reach_read, reach_write, looks_for_add, covers_add}
use Rattle.asset_lock_store.proofs.LookLemmas.{look_more, look_front, look_two, look_part, look_up_to}
use Rattle.asset_lock_store.proofs.store.LockStore.look_on.Goals as goal

pub returns-in-Read-clause-look : goal.returns-in-Read-clause-look
returns-in-Read-clause-look g c = look_up_to c.args.self.now c.args.seats.now (λ u. g.A.Allows.allows c.args.permits.now u c.args.request.asker.t.0 c.args.request.x.0 c.args.request.op) c.args.request.asker.t.0 c.args.request.op c.args.number Middle c.adders_of.result c.keys_up_to-keys.result.now c.look_over.result c.adders_of.ensures (reach_read c.args.request.op c.in-Read.is)
    (subst (λ (s : Stored). AreKeysUpTo s.by_object c.adders_of.result c.keys_up_to-keys.result.now) c.self.view_is c.keys_up_to-keys.ensures) c.look_over.ensures.look

pub returns-in-Write-clause-look : goal.returns-in-Write-clause-look
returns-in-Write-clause-look g c =
    look_up_to c.args.self.now c.args.seats.now (λ u. g.A.Allows.allows c.args.permits.now u c.args.request.asker.t.0 c.args.request.x.0 c.args.request.op) c.args.request.asker.t.0 c.args.request.op c.args.number Back c.readers_of.result c.keys_up_to-keys-in-Write.result.now c.look_over-in-Write.result c.readers_of.ensures (reach_write c.args.request.op c.in-Write.is)
    (subst (λ (s : Stored). AreKeysUpTo s.by_object c.readers_of.result c.keys_up_to-keys-in-Write.result.now) c.self.view_is c.keys_up_to-keys-in-Write.ensures) c.look_over-in-Write.ensures.look

pub returns-then-excluders-clause-look : goal.returns-then-excluders-clause-look
returns-then-excluders-clause-look g c =
    look_front c.args.self.now c.args.seats.now (λ u. g.A.Allows.allows c.args.permits.now u c.args.request.asker.t.0 c.args.request.x.0 c.args.request.op) c.args.request.asker.t.0 c.args.request.op c.args.number c.excluders_of.result c.excluders_of.ensures c.look_over-excluders.result c.if-excluders.true
    (look_part c.args.self.now c.args.seats.now (λ u. g.A.Allows.allows c.args.permits.now u c.args.request.asker.t.0 c.args.request.x.0 c.args.request.op) c.args.request.asker.t.0 c.args.request.op c.excluders_of.result c.keys-front.result.now c.look_over-excluders.result
    (subst (λ (s : Stored). AreKeys s.by_object c.excluders_of.result c.keys-front.result.now) c.self.view_is c.keys-front.ensures) c.look_over-excluders.ensures.look)

pub returns-else-excluders-clause-look : goal.returns-else-excluders-clause-look
returns-else-excluders-clause-look g c =
    let front = look_part c.args.self.now c.args.seats.now (λ u. g.A.Allows.allows c.args.permits.now u c.args.request.asker.t.0 c.args.request.x.0 c.args.request.op) c.args.request.asker.t.0 c.args.request.op c.excluders_of.result c.keys-front.result.now c.look_over-excluders.result
    (subst (λ (s : Stored). AreKeys s.by_object c.excluders_of.result c.keys-front.result.now) c.self.view_is c.keys-front.ensures) c.look_over-excluders.ensures.look in
    let more = subst (λ p. IsLook c.args.self.now c.args.seats.now (λ u. g.A.Allows.allows p u c.args.request.asker.t.0 c.args.request.x.0 c.args.request.op) c.args.request.asker.t.0 c.args.request.op (λ k. (q : ℕ) × IsAt c.keys-back.result.now q k) c.look_over-in-Add.result) c.look_over-excluders.ensures.permits c.look_over-in-Add.ensures.look in
    let back = look_part c.args.self.now c.args.seats.now (λ u. g.A.Allows.allows c.args.permits.now u c.args.request.asker.t.0 c.args.request.x.0 c.args.request.op) c.args.request.asker.t.0 c.args.request.op c.readers_of-in-Add.result c.keys-back.result.now c.look_over-in-Add.result
    (subst (λ (s : Stored). AreKeys s.by_object c.readers_of-in-Add.result c.keys-back.result.now) c.self.view_is c.keys-back.ensures) more in
    subst (λ (l : Look). IsLook c.args.self.now c.args.seats.now (λ u. g.A.Allows.allows c.args.permits.now u c.args.request.asker.t.0 c.args.request.x.0 c.args.request.op) c.args.request.asker.t.0 c.args.request.op (λ k. (w : Section) × (part_of c.args.self.now.by_object k ≡ Some (part_for c.args.number w)) × (looks_at c.args.request.op w ≡ true)) l) (sym c.with.ensures)
    (look_two c.args.self.now c.args.seats.now (λ u. g.A.Allows.allows c.args.permits.now u c.args.request.asker.t.0 c.args.request.x.0 c.args.request.op) c.args.request.asker.t.0 c.args.request.op c.args.number c.excluders_of.result c.excluders_of.ensures Back c.readers_of-in-Add.result c.readers_of-in-Add.ensures (looks_for_add c.args.request.op c.in-Add.is) (look_with c.look_over-excluders.result c.look_over-in-Add.result) (λ _. covers_add c.args.request.op c.in-Add.is)
    (look_more c.args.self.now c.args.seats.now (λ u. g.A.Allows.allows c.args.permits.now u c.args.request.asker.t.0 c.args.request.x.0 c.args.request.op) c.args.request.asker.t.0 c.args.request.op (λ k. part_of c.args.self.now.by_object k ≡ Some c.excluders_of.result) (λ k. part_of c.args.self.now.by_object k ≡ Some c.readers_of-in-Add.result) c.look_over-excluders.result c.look_over-in-Add.result front c.if-excluders.false back))
