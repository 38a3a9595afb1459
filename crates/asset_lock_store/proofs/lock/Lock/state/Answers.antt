use Rattle.std.proofs.Common.{rules}
use Rattle.asset_lock_store.specs.LockRules.{state_of}
use Rattle.asset_lock_store.proofs.lock.Lock.state.Goals as goal

pub returns-else-self : goal.returns-else-self
unfolding state_of
returns-else-self c = search rules
