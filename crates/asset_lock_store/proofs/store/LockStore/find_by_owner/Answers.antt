use Rattle.std.proofs.Common.{◌≡◌, ℕ, Bool, true, false, eqb, sym, ap, ◌∙◌}
use Rattle.asset_lock_store.specs.Stored.{Stored, lock_at}
use Rattle.asset_lock_store.proofs.WalkLemmas.{begins, none_yet, stays, one_more, fewer, all_passed_by}
use Rattle.slab.specs.Slab.{Slab}
use Rattle.asset_lock_store.specs.declared.lock.Lock.{Lock}
use Rattle.asset_lock_store.specs.LockRules.{is_on}
use Rattle.asset_lock_store.proofs.store.LockStore.find_by_owner.Goals as goal

-- whether the lock at a key is on an object, by the lock that was read there
found : (locks : Slab Lock) (k x : ℕ) (lock : Lock) (b : Bool) → lock ≡ lock_at locks k → eqb lock.object.0 x ≡ b → is_on x (lock_at locks k) ≡ b
unfolding is_on
found locks k x lock b read is = ap (λ (l : Lock). eqb l.object.0 x) (sym read) ∙ is

pub keys-init : goal.keys-init
keys-init c = record {
  home = begins c.self.inside.by_owner c.args.self.now.by_owner (ap (λ (s : Stored). s.by_owner) c.self.view_is) c.laws.ensures.sound c.args.c c.first-next.result c.first-next.ensures;
  passed = none_yet c.self.inside.by_owner c.args.self.now.by_owner (ap (λ (s : Stored). s.by_owner) c.self.view_is) c.laws.ensures.sound c.args.c (λ k. is_on c.args.x.0 (lock_at c.args.self.now.locks k) ≡ false) c.first-next.result c.first-next.ensures;
}

pub keys-smaller : goal.keys-smaller
keys-smaller c = fewer c.self.inside.by_owner c.args.self.now.by_owner (ap (λ (s : Stored). s.by_owner) c.self.view_is) c.laws.ensures.sound c.args.c c.in-Some.key c.next-next.result c.keys.next (c.keys.invariant.home c.in-Some.key c.in-Some.is) c.next-next.ensures.next c.in-Some.is

pub keys-preserved : goal.keys-preserved
keys-preserved c =
    let home = c.keys.invariant.home c.in-Some.key c.in-Some.is in
    record {
      home = stays c.self.inside.by_owner c.args.self.now.by_owner (ap (λ (s : Stored). s.by_owner) c.self.view_is) c.laws.ensures.sound c.args.c c.in-Some.key c.next-next.result c.keys.next home c.next-next.ensures.next c.in-Some.is;
      passed = one_more c.self.inside.by_owner c.args.self.now.by_owner (ap (λ (s : Stored). s.by_owner) c.self.view_is) c.laws.ensures.sound c.args.c c.in-Some.key c.next-next.result c.keys.next home c.next-next.ensures.next c.in-Some.is (λ k. is_on c.args.x.0 (lock_at c.args.self.now.locks k) ≡ false) c.keys.invariant.passed (found c.args.self.now.locks c.in-Some.key c.args.x.0 c.lock.result false c.lock.ensures (sym c.eq.ensures ∙ c.if-eq.false));
    }

pub returns-then-eq-clause-found : goal.returns-then-eq-clause-found
returns-then-eq-clause-found c = (c.keys.invariant.home c.in-Some.key c.in-Some.is, found c.args.self.now.locks c.in-Some.key c.args.x.0 c.lock.result true c.lock.ensures (sym c.eq.ensures ∙ c.if-eq.true))

pub returns-clause-none : goal.returns-clause-none
returns-clause-none c = all_passed_by c.self.inside.by_owner c.args.self.now.by_owner (ap (λ (s : Stored). s.by_owner) c.self.view_is) c.laws.ensures.sound c.args.c (λ k. is_on c.args.x.0 (lock_at c.args.self.now.locks k) ≡ false) c.keys.next c.in_default.is c.keys.invariant.passed
