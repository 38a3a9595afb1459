use Rattle.std.proofs.Common.{get_or, refl, sym, ap, subst, ◌∙◌}
use Rattle.asset_chains.specs.Chained.{home_of}
use Rattle.asset_lists.specs.Parted.{AreKeys}
use Rattle.asset_lock_store.specs.Stored.{Stored, is_others}
use Rattle.asset_lock_store.proofs.WalkLemmas.{others_not}
use Rattle.asset_lock_store.proofs.store.LockStore.find_in.Goals as goal

pub returns-then-not-is_others-clause-found : goal.returns-then-not-is_others-clause-found
returns-then-not-is_others-clause-found c =
    let keys = c.keys-keys.result.now in
    let are = subst (λ (s : Stored). AreKeys s.by_object c.args.part keys) c.self.view_is c.keys-keys.ensures in (
      are.there c.keys.key-index (get_or keys c.keys.key-index 0) (record { within = c.keys-test.true; reads = refl }),
      others_not c.args.c _ (sym (ap (λ (s : Stored). is_others c.args.c (home_of s.by_owner (get_or keys c.keys.key-index 0))) c.self.view_is) ∙ sym c.is_others.ensures ∙ c.if-not-is_others.true),
    )
