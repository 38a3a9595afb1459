use Rattle.std.proofs.Common.{rules}
use Rattle.asset_lock_store.specs.Stored.{part_for}
use Rattle.asset_lock_store.proofs.store.excluders_of.Goals as goal

pub returns : goal.returns
unfolding part_for
returns c = search rules
