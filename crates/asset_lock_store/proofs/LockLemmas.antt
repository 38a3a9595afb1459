-- Whether a lock is on an object.
use Rattle.std.proofs.Common.{◌≡◌, ℕ, true, false}
use Rattle.std.proofs.lemmas.Bool.{eqb-true, eq-eqb, ne_eqb}
use Rattle.asset_lock_store.specs.declared.lock.Lock.{Lock}
use Rattle.asset_lock_store.specs.LockRules.{is_on}

pub on_to : (x : ℕ) (lock : Lock) → is_on x lock ≡ true → lock.object.0 ≡ x
unfolding is_on
on_to x lock on = eqb-true lock.object.0 x on

pub on_from : (x : ℕ) (lock : Lock) → lock.object.0 ≡ x → is_on x lock ≡ true
unfolding is_on
on_from x lock same = eq-eqb lock.object.0 x same

pub off_from : (x : ℕ) (lock : Lock) → (lock.object.0 ≡ x → ⊥) → is_on x lock ≡ false
unfolding is_on
off_from x lock differ = ne_eqb lock.object.0 x differ
