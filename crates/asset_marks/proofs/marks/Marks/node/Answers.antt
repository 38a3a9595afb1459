use Rattle.std.proofs.Common.{arith}
use Rattle.std.proofs.lemmas.Grind.{common_steps}
use Rattle.asset_marks.proofs.marks.Marks.node.Goals as goal

pub returns-clause-node : goal.returns-clause-node
returns-clause-node c = grind (arith, common_steps)
