use Rattle.asset_lock_store.proofs.StoreLemmas.{stored_nothing}
use Rattle.asset_lock_store.proofs.store.LockStore.new.Goals as goal

pub invariant_of-result : goal.invariant_of-result
invariant_of-result c = stored_nothing _ c.new.ensures.empty c.new-2.ensures.items c.new-3.ensures.parts c.new-4.ensures.homes
