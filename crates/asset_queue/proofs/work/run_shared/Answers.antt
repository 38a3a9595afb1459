use Rattle.std.proofs.Common.{rules}
use Rattle.asset_queue.proofs.Moves.{begins, forks, merges}
use Rattle.asset_queue.proofs.work.run_shared.Goals as goal

pub ruled-requires-clause-rule : goal.ruled-requires-clause-rule
ruled-requires-clause-rule g c = begins g.J.Ticketed.ticket g.O.Origin.from

pub another-theirs-requires-clause-rule : goal.another-theirs-requires-clause-rule
another-theirs-requires-clause-rule g c = forks g.J.Ticketed.ticket g.O.Origin.from _ _

pub absorb-requires-clause-rule : goal.absorb-requires-clause-rule
absorb-requires-clause-rule g c = merges g.J.Ticketed.ticket g.O.Origin.from _ _ _ _

pub returns-in_default-ruled-clause-err : goal.returns-in_default-ruled-clause-err
returns-in_default-ruled-clause-err g c = search rules
