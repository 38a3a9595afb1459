use Rattle.std.proofs.Common.{rules}
use Rattle.asset_counts.proofs.Moves.{splits}
use Rattle.asset_counts.proofs.watch.Watch.pass_of.Goals as goal

pub split_seat-seat-requires : goal.split_seat-seat-requires
split_seat-seat-requires c = (search rules, search rules, splits _ _)

pub returns-clause-of : goal.returns-clause-of
returns-clause-of c = search rules

pub returns-clause-last : goal.returns-clause-last
returns-clause-last c = search rules
