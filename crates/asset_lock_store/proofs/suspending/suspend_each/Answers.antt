use Rattle.std.proofs.Common.{ℕ, ◌&&◌, List, is_some, sym, ap, ◌∙◌, arith}
use Rattle.slab.specs.Slab.{Slab, get}
use Rattle.asset_lock_store.specs.declared.lock.Lock.{Lock}
use Rattle.std.proofs.lemmas.List.{take_all}
use Rattle.asset_chains.specs.Chained.{home_of, lists}
use Rattle.asset_lock_store.specs.Stored.{lock_at, is_others}
use Rattle.asset_lock_store.proofs.WalkLemmas.{passed_lock}
use Rattle.asset_lock_store.proofs.ListLemmas.{passed_more, passed_own}
use Rattle.asset_lock_store.proofs.suspending.suspend_each.Goals as goal
use Rattle.asset_lock_store.proofs.suspending.suspend_each.Goals.{then-is_others, else-is_others}

pub returns-clause-locks : goal.returns-clause-locks
returns-clause-locks c = λ k.
    c.keys.invariant.locks k
    ∙ ap (λ (l : List ℕ). passed_lock c.args.ops (lists l k && is_others c.args.c (home_of c.args.by_owner.now k)) (lock_at c.args.locks.now k)) (take_all c.keys.key-index c.args.keys.now (omega arith))

pub keys-preserved : goal.keys-preserved
keys-preserved c =
    let keys = c.args.keys.now in
    elim c.if-is_others.branch [
      | then-is_others w ↦ record {
        locks = λ k.
            ap (λ (s : Slab Lock). lock_at s k) w.locks-is
            ∙ passed_more c.args.ops keys c.keys.key-index c.args.c (home_of c.args.by_owner.now) (lock_at c.args.locks.now) (lock_at c.keys.locks) c.keys-test.true c.keys.invariant.locks
            (sym c.is_others.ensures ∙ w.if-is_others.true) (lock_at w.suspend_at.new.locks) w.suspend_at.ensures.locks k;
        keys = λ k. ap (λ (s : Slab Lock). is_some (get s k)) w.locks-is ∙ w.suspend_at.ensures.keys k ∙ c.keys.invariant.keys k;
      }
      | else-is_others w ↦ record {
        locks = λ k.
            ap (λ (s : Slab Lock). lock_at s k) w.locks-is
            ∙ passed_own c.args.ops keys c.keys.key-index c.args.c (home_of c.args.by_owner.now) (lock_at c.args.locks.now) (lock_at c.keys.locks) c.keys-test.true c.keys.invariant.locks
            (sym c.is_others.ensures ∙ w.if-is_others.false) k;
        keys = λ k. ap (λ (s : Slab Lock). is_some (get s k)) w.locks-is ∙ c.keys.invariant.keys k;
      }
    ]
