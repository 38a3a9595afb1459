use Rattle.std.proofs.Common.{rules}
use Rattle.asset_counts.proofs.watch.Watch.split.Goals as goal

pub returns-clause-given : goal.returns-clause-given
returns-clause-given c = search rules
