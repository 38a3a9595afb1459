use Rattle.std.proofs.Common.{rules}
use Rattle.asset_lock_store.specs.LockRules.{one_conflicts}
use Rattle.asset_lock_store.proofs.lock.one_conflicts.Goals as goal

pub returns-then-has-3 : goal.returns-then-has-3
unfolding one_conflicts
returns-then-has-3 c = search rules
