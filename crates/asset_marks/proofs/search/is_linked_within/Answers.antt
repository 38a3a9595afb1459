use Rattle.std.proofs.Common.{◌≡◌, ◌<◌, ◌∙◌, eqb, true, false, sym, ap, subst, refl, get_or, length, arith}
use Rattle.std.proofs.lemmas.Bool.{true≢false, ne_eqb}
use Rattle.asset_names.specs.Arrows.{lists}
use Rattle.asset_names.proofs.ListLemmas.{lists_at}
use Rattle.asset_marks.specs.Searched.{Expands}
use Rattle.asset_marks.proofs.WalkLemmas.{walk_from, walk_on, walk_across}
use Rattle.asset_marks.proofs.search.is_linked_within.Goals as goal

pub met-init : goal.met-init
met-init g c = (c.expand.ensures.size ∙ c.clear.ensures.size, walk_from _ _ _ _ _ c.clear.ensures.nodes c.expand.ensures.expanded)

pub met-preserved : goal.met-preserved
met-preserved g c =
    let arrows = g.A.Arrows.arrows c.args.way.now in
    let nodes = c.met.marks.nodes in
    let node = get_or nodes c.met.next 0 in
    let after = c.expand-in-met.new.marks.nodes in
    let below : c.met.next < length nodes = omega (arith, c.met-test.true, c.len.ensures.len) in
    let listed : lists nodes node ≡ true = lists_at nodes node c.met.next below refl in
    let other : eqb node c.args.to ≡ false = ne_eqb node c.args.to (λ same. true≢false (sym listed ∙ ap (lists nodes) same ∙ sym c.has.ensures ∙ c.if-has.false)) in
    let expanded : Expands arrows node nodes after = subst (λ k. Expands arrows k nodes after) c.node-node.ensures.node c.expand-in-met.ensures.expanded in
    (c.expand-in-met.ensures.size ∙ c.met.invariant.0, walk_on arrows c.args.from c.args.to nodes after c.met.next c.met.invariant.1 below other expanded)

pub returns-clause-is_linked : goal.returns-clause-is_linked
returns-clause-is_linked g c =
    sym (walk_across _ _ _ c.met.marks.nodes c.met.next c.met.invariant.1 (omega (arith, c.met-test.false, c.len.ensures.len)) c.requires.another)
