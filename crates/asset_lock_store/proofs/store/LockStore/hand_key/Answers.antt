use Rattle.std.proofs.Common.{cond, eqb, sym, ap, ◌∙◌}
use Rattle.asset_lock_store.specs.declared.lock.Lock.{Lock}
use Rattle.asset_lock_store.specs.LockRules.{is_on}
use Rattle.asset_lock_store.specs.Stored.{lock_at}
use Rattle.asset_lock_store.proofs.MergeLemmas.{with_ops}
use Rattle.asset_lock_store.proofs.HandLemmas.{handed_alone, handed_merged}
use Rattle.asset_lock_store.proofs.store.LockStore.hand_key.Goals as goal

pub returns-in-Some : goal.returns-in-Some
returns-in-Some c = λ from home differ.
    handed_merged c.args.self.now c.drop_lock.new.self c.laws.ensures.stored c.laws.ensures.owners c.args.key from c.args.to home differ c.join_at.new.self c.in-Some.other c.in-Some.ensures.found.0
    (ap (λ (l : Lock). is_on l.object.0 (lock_at c.args.self.now.locks c.in-Some.other)) (sym c.lock-lock.ensures) ∙ c.in-Some.ensures.found.1)
    (λ k. c.join_at.ensures.locks k ∙ ap (λ (l : Lock). cond (eqb k c.in-Some.other) (with_ops l.ops (lock_at c.args.self.now.locks c.in-Some.other)) (lock_at c.args.self.now.locks k)) c.lock-lock.ensures)
    c.join_at.ensures.by_owner
    c.join_at.ensures.objects
    c.drop_lock.ensures

pub returns-in-None : goal.returns-in-None
returns-in-None c = λ from home differ.
    handed_alone c.args.self.now c.move_key.new.self c.laws.ensures.stored c.laws.ensures.owners c.args.key from c.args.to home differ c.move_key.ensures
    (λ k at. ap (λ (l : Lock). is_on l.object.0 (lock_at c.args.self.now.locks k)) (sym c.lock-lock.ensures) ∙ c.in-None.ensures.none k at)
