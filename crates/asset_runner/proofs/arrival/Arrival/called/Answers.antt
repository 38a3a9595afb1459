use Rattle.std.proofs.Common.{rules}
use Rattle.asset_runner.proofs.arrival.Arrival.called.Goals as goal

pub returns-clause-kept : goal.returns-clause-kept
returns-clause-kept g c = search rules
