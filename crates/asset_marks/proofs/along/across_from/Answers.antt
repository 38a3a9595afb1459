use Rattle.std.proofs.Common.{rules}
use Rattle.asset_marks.proofs.along.across_from.Goals as goal

pub returns-then-passes : goal.returns-then-passes
returns-then-passes g c = search rules

pub returns-in-None : goal.returns-in-None
returns-in-None g c = search rules
