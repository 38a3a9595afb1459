use Rattle.std.proofs.Common.{refl, subst}
use Rattle.asset_chains.proofs.Walks.{home_same}
use Rattle.asset_lock_store.specs.Stored.{Stored, IsGrown}
use Rattle.asset_lock_store.proofs.StoreLemmas.{stored_grown}
use Rattle.asset_lock_store.proofs.store.LockStore.reserve_seat.Goals as goal

pub invariant_of-self : goal.invariant_of-self
invariant_of-self c =
    let inside = c.self.inside in
    stored_grown (record { locks = inside.locks; objects = inside.objects.items; by_object = inside.by_object; by_owner = inside.by_owner }) _ c.self.invariant
    (λ k. refl) (λ k. refl) (home_same inside.by_owner c.add_chains.new.chains c.add_chains.ensures.homes) (λ x n is. is) c.self.invariant.lists

pub returns-clause-grown : goal.returns-clause-grown
returns-clause-grown c =
    let inside = c.self.inside in
    subst (λ (s : Stored). IsGrown s (record { locks = inside.locks; objects = inside.objects.items; by_object = inside.by_object; by_owner = c.add_chains.new.chains })) c.self.view_is (record {
      locks = λ k. refl;
      chains = c.add_chains.ensures.chains;
      homes = home_same inside.by_owner c.add_chains.new.chains c.add_chains.ensures.homes;
      seats = c.add_chains.ensures.more;
      objects = refl;
    })
