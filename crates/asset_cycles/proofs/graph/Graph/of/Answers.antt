use Rattle.std.proofs.Common.{◌≡◌, ◌∙◌, sym, ap, subst}
use Rattle.asset_cycles.specs.Cyclic.{AreBelow, turned}
use Rattle.asset_cycles.proofs.LeavingLemmas.{turned_below}
use Rattle.asset_cycles.proofs.graph.Graph.of.Goals as goal

pub of-requires-2 : goal.of-requires-2
of-requires-2 c =
    let arrows = c.args.arrows.items in
    let is : c.in_ok-back.back.items ≡ turned arrows = c.in_ok-back.ensures ∙ ap turned c.deref.ensures.value in
    subst (λ l. AreBelow l c.args.count) (sym is) (turned_below arrows c.args.count c.requires)
