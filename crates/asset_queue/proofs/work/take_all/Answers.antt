use Rattle.std.proofs.Common.{ap, arith}
use Rattle.asset_queue.proofs.Moves.{takes, learns}
use Rattle.asset_queue.proofs.work.take_all.Goals as goal

pub pop_as-requires-clause-rule : goal.pop_as-requires-clause-rule
pop_as-requires-clause-rule g c =
    (takes g.J.Ticketed.ticket g.O.Origin.from _ _ (omega (arith, ap (λ v. v.parts) c.loop.invariant.1, c.requires.hand.1)), learns g.J.Ticketed.ticket g.O.Origin.from _ _)
