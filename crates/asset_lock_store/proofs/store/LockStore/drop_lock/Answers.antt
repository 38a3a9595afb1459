use Rattle.std.proofs.Common.{refl, sym, ap, ◌∙◌, is_some, subst}
use Rattle.asset_names.proofs.Common.{some_of}
use Rattle.asset_chains.specs.Chained.{home_of, IsConsistent}
use Rattle.asset_chains.proofs.Laws.{key_within, unlinks}
use Rattle.asset_chains.proofs.Walks.{chains_without, homes_without}
use Rattle.asset_lock_store.specs.Stored.{Stored, IsDropped}
use Rattle.asset_lock_store.proofs.StoreLemmas.{same_lock, stored_dropped}
use Rattle.asset_lock_store.proofs.store.LockStore.drop_lock.Goals as goal

pub unlink-requires : goal.unlink-requires
unlink-requires c =
    let inside = c.self.inside in
    let at = some_of (home_of inside.by_owner c.args.key) (ap (λ (s : Stored). is_some (home_of s.by_owner c.args.key)) c.self.view_is ∙ c.requires) in
    key_within c.args.key at.0 inside.by_owner at.1

pub invariant_of-self : goal.invariant_of-self
invariant_of-self c =
    let inside = c.self.inside in
    let there = ap (λ (s : Stored). is_some (home_of s.by_owner c.args.key)) c.self.view_is ∙ c.requires in
    let of_owner = some_of (home_of inside.by_owner c.args.key) there in
    stored_dropped (record { locks = inside.locks; objects = inside.objects.items; by_object = inside.by_object; by_owner = inside.by_owner }) _ c.args.key c.self.invariant c.try_remove.ensures.updates
    c.remove.ensures
    (homes_without inside.by_owner c.unlink.new.self c.args.key of_owner.0 of_owner.1 c.unlink.ensures)
    refl

pub returns : goal.returns
returns c =
    let inside = c.self.inside in
    let there = ap (λ (s : Stored). is_some (home_of s.by_owner c.args.key)) c.self.view_is ∙ c.requires in
    let of_owner = some_of (home_of inside.by_owner c.args.key) there in
    let sound = subst (λ (s : Stored). IsConsistent s.by_owner) (sym c.self.view_is) c.laws.ensures.owners in
    subst (λ (s : Stored). IsDropped c.args.key s (record { locks = c.try_remove.new.self; objects = inside.objects.items; by_object = c.remove.new.self; by_owner = c.unlink.new.self })) c.self.view_is (record {
      locks = λ k apart. same_lock c.try_remove.new.self inside.locks k (c.try_remove.ensures.updates.others k apart);
      chains = chains_without inside.by_owner c.unlink.new.self c.args.key of_owner.0 sound of_owner.1 c.unlink.ensures;
      homes = homes_without inside.by_owner c.unlink.new.self c.args.key of_owner.0 of_owner.1 c.unlink.ensures;
      seats = (unlinks of_owner.0 c.args.key inside.by_owner c.unlink.new.self of_owner.1 c.unlink.ensures).same_chains;
      objects = refl;
    })
