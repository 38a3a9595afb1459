use Rattle.std.proofs.Common.{rules}
use Rattle.asset_locks.proofs.locks.Locks.new.Goals as goal

pub returns : goal.returns
returns c = search rules
