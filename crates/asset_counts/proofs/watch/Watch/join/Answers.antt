use Rattle.std.proofs.Common.{rules}
use Rattle.asset_counts.proofs.watch.Watch.join.Goals as goal

pub returns-in-Some-reader : goal.returns-in-Some-reader
returns-in-Some-reader c = search rules
