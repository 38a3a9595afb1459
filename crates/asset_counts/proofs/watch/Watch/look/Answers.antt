use Rattle.std.proofs.Common.{rules}
use Rattle.asset_counts.proofs.Moves.{looks}
use Rattle.asset_counts.proofs.watch.Watch.look.Goals as goal

pub load-word-requires : goal.load-word-requires
load-word-requires c = (search rules, search rules, looks _ _ _)

pub returns-clause-last : goal.returns-clause-last
returns-clause-last c = search rules
