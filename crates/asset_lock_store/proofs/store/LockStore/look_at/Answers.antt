use Rattle.std.proofs.Common.{◌≡◌, Bool, true, not, None, sym, ap, subst, ◌∙◌}
use Rattle.asset_lock_store.specs.declared.lock.Lock.{Lock}
use Rattle.asset_lock_store.specs.LockRules.{one_conflicts}
use Rattle.asset_lock_store.specs.Looked.{IsLook}
use Rattle.asset_lock_store.proofs.LookLemmas.{look_nobody, look_own, look_conflict, look_apart}
use Rattle.asset_lock_store.proofs.store.LockStore.look_at.Goals as goal

pub returns-in_default-clause-look : goal.returns-in_default-clause-look
returns-in_default-clause-look g c = look_nobody c.args.self.now c.args.seats.now (λ u. g.A.Allows.allows c.args.permits.now u c.args.request.asker.t.0 c.args.request.x.0 c.args.request.op) c.args.request.asker.t.0 c.args.request.op c.args.key c.in_default.ensures.none

pub returns-then-eq-clause-look : goal.returns-then-eq-clause-look
returns-then-eq-clause-look g c = look_own c.args.self.now c.args.seats.now (λ u. g.A.Allows.allows c.args.permits.now u c.args.request.asker.t.0 c.args.request.x.0 c.args.request.op) c.args.request.asker.t.0 c.args.request.op c.args.key c.in-Some.owner.t c.in-Some.ensures.found.1 (sym c.eq.ensures ∙ c.if-eq.true)

pub returns-then-one_conflicts-clause-look : goal.returns-then-one_conflicts-clause-look
returns-then-one_conflicts-clause-look g c =
    subst (λ (b : Bool). IsLook c.args.self.now c.args.seats.now (λ u. g.A.Allows.allows c.args.permits.now u c.args.request.asker.t.0 c.args.request.x.0 c.args.request.op) c.args.request.asker.t.0 c.args.request.op (λ k. k ≡ c.args.key) (record { blocked = not b; own = None; conflicts = true })) (sym c.allows.ensures.allowed)
    (look_conflict c.args.self.now c.args.seats.now (λ u. g.A.Allows.allows c.args.permits.now u c.args.request.asker.t.0 c.args.request.x.0 c.args.request.op) c.args.request.asker.t.0 c.args.request.op c.args.key c.in-Some.owner.t c.in-Some.ensures.found.1 (sym c.eq.ensures ∙ c.if-eq.false)
    (sym (ap (λ (l : Lock). one_conflicts l.ops c.args.request.op) c.lock.ensures) ∙ sym c.one_conflicts.ensures ∙ c.if-one_conflicts.true))

pub returns-else-one_conflicts-clause-look : goal.returns-else-one_conflicts-clause-look
returns-else-one_conflicts-clause-look g c =
    look_apart c.args.self.now c.args.seats.now (λ u. g.A.Allows.allows c.args.permits.now u c.args.request.asker.t.0 c.args.request.x.0 c.args.request.op) c.args.request.asker.t.0 c.args.request.op c.args.key c.in-Some.owner.t c.in-Some.ensures.found.1 (sym c.eq.ensures ∙ c.if-eq.false)
    (sym (ap (λ (l : Lock). one_conflicts l.ops c.args.request.op) c.lock.ensures) ∙ sym c.one_conflicts.ensures ∙ c.if-one_conflicts.false)
