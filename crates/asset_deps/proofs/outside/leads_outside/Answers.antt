use Rattle.std.proofs.Common.{◌≡◌, ◌<◌, true, subst, sym, length, arith}
use Rattle.asset_names.specs.Arrows.{has_arrow}
use Rattle.asset_names.proofs.ListLemmas.{listed_at, lists_at}
use Rattle.asset_chains.specs.Crossed.{lines, other_side}
use Rattle.asset_marks.specs.Searched.{arrows_along}
use Rattle.asset_deps.specs.declared.kinds.Kinds.TheVariants.{Order}
use Rattle.asset_deps.specs.Reached.{of_kinds}
use Rattle.asset_deps.proofs.outside.leads_outside.Goals as goal

pub returns-then-leads_out-clause-leads : goal.returns-then-leads_out-clause-leads
returns-then-leads_out-clause-leads c = λ here.
    let nodes = c.args.marks.now.nodes in
    let below : c.met.next < length nodes = omega (arith, c.met-test.true, c.len.ensures.len) in
    let found = c.leads_out.ensures.leads c.if-leads_out.true in
    (c.node.result, found.0, lists_at nodes c.node.result c.met.next below (sym c.node.ensures.node), found.1, found.2)

pub returns-clause-met : goal.returns-clause-met
returns-clause-met c = λ here u t met arrow.
    let way = c.args.way.now in
    let found = listed_at c.args.marks.now.nodes u met in
    c.met.invariant found.0 (omega (arith, found.1, c.met-test.false, c.len.ensures.len)) t (subst (λ n. has_arrow (arrows_along (of_kinds Order) way.items.now.items (lines way.side way.items.now) (lines (other_side way.side) way.items.now)) n t ≡ true) (sym found.2) arrow)
