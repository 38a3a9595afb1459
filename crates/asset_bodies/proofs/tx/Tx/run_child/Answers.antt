use Rattle.std.proofs.Common.{rules}
use Rattle.asset_bodies.proofs.tx.Tx.run_child.Goals as goal

pub returns-then-by-child-clause-ran : goal.returns-then-by-child-clause-ran
returns-then-by-child-clause-ran g c = search rules

pub returns-clause-ran : goal.returns-clause-ran
returns-clause-ran g c = search rules
