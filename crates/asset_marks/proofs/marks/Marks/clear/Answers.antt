use Rattle.std.proofs.Common.{rules}
use Rattle.asset_marks.proofs.marks.Marks.clear.Goals as goal

pub returns-clause-size : goal.returns-clause-size
returns-clause-size c = search rules

pub returns-clause-nodes : goal.returns-clause-nodes
returns-clause-nodes c = search rules
