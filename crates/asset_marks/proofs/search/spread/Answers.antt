use Rattle.std.proofs.Common.{◌<◌, ◌∙◌, subst, get_or, length, arith}
use Rattle.asset_marks.specs.Searched.{Expands}
use Rattle.asset_marks.proofs.WalkLemmas.{spread_from, spread_on, spread_across}
use Rattle.asset_marks.proofs.search.spread.Goals as goal

pub met-init : goal.met-init
met-init g c = (c.meet.ensures.size ∙ c.clear.ensures.size, spread_from _ _ _ _ c.clear.ensures.nodes c.meet.ensures.nodes)

pub met-preserved : goal.met-preserved
met-preserved g c =
    let arrows = g.A.Arrows.arrows c.args.way.now in
    let nodes = c.met.marks.nodes in
    let node = get_or nodes c.met.next 0 in
    let after = c.expand.new.marks.nodes in
    let below : c.met.next < length nodes = omega (arith, c.met-test.true, c.len.ensures.len) in
    let expanded : Expands arrows node nodes after = subst (λ k. Expands arrows k nodes after) c.node-node.ensures.node c.expand.ensures.expanded in
    (c.expand.ensures.size ∙ c.met.invariant.0, spread_on arrows c.args.from nodes after c.met.next c.met.invariant.1 below expanded)

pub returns-clause-met : goal.returns-clause-met
returns-clause-met g c = spread_across _ _ c.met.marks.nodes c.met.next c.met.invariant.1 (omega (arith, c.met-test.false, c.len.ensures.len))
