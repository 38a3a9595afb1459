use Rattle.std.proofs.Common.{map, ap, arith}
use Rattle.std.proofs.lemmas.List.{length-map}
use Rattle.asset_queue.proofs.Moves.{takes, learns}
use Rattle.asset_queue.proofs.Takings.{few_left, nothing_held}
use Rattle.asset_queue.proofs.work.drain.Goals as goal

pub pop_as-requires-clause-rule : goal.pop_as-requires-clause-rule
pop_as-requires-clause-rule g c =
    (takes g.J.Ticketed.ticket g.O.Origin.from _ _ (omega (arith, ap (λ v. v.parts) c.loop.invariant.1)), learns g.J.Ticketed.ticket g.O.Origin.from _ _)

pub push_reserved-requires : goal.push_reserved-requires
push_reserved-requires g c =
    let few = few_left _ _ _ _ (map g.J.Ticketed.ticket c.loop.left.items) _ c.loop.invariant.1 c.in-Some-pop_as.ensures.rule.0 c.in-Some-pop_as.ensures.rule.1 in
    omega (arith, few, length-map c.loop.left.items g.J.Ticketed.ticket, c.loop.left.ok, c.loop.invariant.2)

pub returns-in-None-pop_as-clause-once : goal.returns-in-None-pop_as-clause-once
returns-in-None-pop_as-clause-once g c =
    let held = c.in-None-pop_as.ensures.rule.1 in
    nothing_held _ (map g.J.Ticketed.ticket held.0) _ _ (map g.J.Ticketed.ticket c.loop.left.items) c.loop.invariant.1
    (omega (arith, length-map held.0 g.J.Ticketed.ticket, held.1)) held.2
