use Rattle.std.proofs.Common.{ap, arith}
use Rattle.asset_queue.proofs.Moves.{forks, merges}
use Rattle.asset_queue.proofs.Takings.{both_took}
use Rattle.asset_queue.proofs.work.+fn-share-join+arg2+fn-share-join+arg3+share.Goals as goal

pub another-other-requires-clause-rule : goal.another-other-requires-clause-rule
another-other-requires-clause-rule g t c = forks g.J.Ticketed.ticket g.O.Origin.from _ _

pub absorb-requires-clause-rule : goal.absorb-requires-clause-rule
absorb-requires-clause-rule g t c = merges g.J.Ticketed.ticket g.O.Origin.from _ _ _ _

pub returns-clause-taken : goal.returns-clause-taken
returns-clause-taken g t c =
    both_took g.E.Ticketed.ticket _ _ _ _ _ _ c.join-pass.result.0.1.items c.join-pass.result.1.1.items c.joined.result.items
    c.join-pass.ensures.first.1 c.join-pass.ensures.second.1 c.joined.ensures.items c.absorb.ensures.rule
    (omega (arith, ap (λ v. v.parts) c.another-other.ensures.rule.0, ap (λ v. v.parts) c.another-other.ensures.rule.1))
