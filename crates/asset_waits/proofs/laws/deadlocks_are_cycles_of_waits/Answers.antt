use Rattle.asset_waits.proofs.DeadlockLemmas.{named_waits, waits_named}
use Rattle.asset_waits.proofs.laws.deadlocks_are_cycles_of_waits.Goals as goal

pub returns : goal.returns
returns c = λ steps pending t u. (named_waits steps pending t u, λ chains. waits_named steps pending t u chains.0 chains.1)
