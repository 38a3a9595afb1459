use Rattle.std.proofs.Common.{ℕ, List, length, refl, ap, subst, arith}
use Rattle.slab.specs.Slab.{Slab, get}
use Rattle.asset_chains.proofs.Walks.{chain_same}
use Rattle.asset_lock_store.specs.declared.lock.Lock.{Lock}
use Rattle.asset_lock_store.specs.Stored.{Stored, IsGrown}
use Rattle.asset_lock_store.proofs.StoreLemmas.{stored_grown}
use Rattle.asset_lock_store.proofs.store.LockStore.reserve_key.Goals as goal

pub invariant_of-self : goal.invariant_of-self
invariant_of-self c =
    let inside = c.self.inside in
    stored_grown (record { locks = inside.locks; objects = inside.objects.items; by_object = inside.by_object; by_owner = inside.by_owner }) _ c.self.invariant
    (λ k. ap (λ (s : Slab Lock). get s k) c.reserve.ensures.rest_kept) (λ k. refl) (λ k. refl) (λ x n is. is) c.self.invariant.lists

pub invariant_of-self-in-Err-add_keys : goal.invariant_of-self-in-Err-add_keys
invariant_of-self-in-Err-add_keys c =
    let inside = c.self.inside in
    stored_grown (record { locks = inside.locks; objects = inside.objects.items; by_object = inside.by_object; by_owner = inside.by_owner }) _ c.self.invariant
    (λ k. ap (λ (s : Slab Lock). get s k) c.reserve.ensures.rest_kept) c.add_keys.ensures.parts (λ k. refl) (λ x n is. is) (omega (arith, c.self.invariant.lists, c.add_keys.ensures.lists))

pub invariant_of-self-in_err-add_keys : goal.invariant_of-self-in_err-add_keys
invariant_of-self-in_err-add_keys c =
    let inside = c.self.inside in
    stored_grown (record { locks = inside.locks; objects = inside.objects.items; by_object = inside.by_object; by_owner = inside.by_owner }) _ c.self.invariant
    (λ k. ap (λ (s : Slab Lock). get s k) c.reserve.ensures.rest_kept) c.add_keys.ensures.parts c.add_keys-2.ensures.homes (λ x n is. is) (omega (arith, c.self.invariant.lists, c.add_keys.ensures.lists))

pub returns-in_err-add_keys-clause-grown : goal.returns-in_err-add_keys-clause-grown
returns-in_err-add_keys-clause-grown c =
    let inside = c.self.inside in
    subst (λ (s : Stored). IsGrown s (record { locks = c.reserve.new.self; objects = inside.objects.items; by_object = c.add_keys.new.self; by_owner = c.add_keys-2.new.chains })) c.self.view_is (record {
      locks = λ k. ap (λ (s : Slab Lock). get s k) c.reserve.ensures.rest_kept;
      chains = chain_same inside.by_owner c.add_keys-2.new.chains c.add_keys-2.ensures.chains;
      homes = c.add_keys-2.ensures.homes;
      seats = omega (arith, ap (λ (l : List (List ℕ)). length l) c.add_keys-2.ensures.chains);
      objects = refl;
    })

pub invariant_of-self-2 : goal.invariant_of-self-2
invariant_of-self-2 c =
    let inside = c.self.inside in
    stored_grown (record { locks = inside.locks; objects = inside.objects.items; by_object = inside.by_object; by_owner = inside.by_owner }) _ c.self.invariant
    (λ k. ap (λ (s : Slab Lock). get s k) c.reserve.ensures.rest_kept) c.add_keys.ensures.parts c.add_keys-2.ensures.homes (λ x n is. is) (omega (arith, c.self.invariant.lists, c.add_keys.ensures.lists))

pub returns-clause-grown : goal.returns-clause-grown
returns-clause-grown c =
    let inside = c.self.inside in
    subst (λ (s : Stored). IsGrown s (record { locks = c.reserve.new.self; objects = inside.objects.items; by_object = c.add_keys.new.self; by_owner = c.add_keys-2.new.chains })) c.self.view_is (record {
      locks = λ k. ap (λ (s : Slab Lock). get s k) c.reserve.ensures.rest_kept;
      chains = chain_same inside.by_owner c.add_keys-2.new.chains c.add_keys-2.ensures.chains;
      homes = c.add_keys-2.ensures.homes;
      seats = omega (arith, ap (λ (l : List (List ℕ)). length l) c.add_keys-2.ensures.chains);
      objects = refl;
    })
