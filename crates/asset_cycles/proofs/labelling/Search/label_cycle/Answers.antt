use Rattle.std.proofs.Common.{◌≡◌, ◌∙◌, ◌&&◌, true, false, cond, Some, None, get_or, length, sym, ap, subst}
use Rattle.asset_names.specs.Arrows.{lists}
use Rattle.asset_marks.specs.Searched.{AreWithin}
use Rattle.asset_cycles.specs.Cyclic.{on_one_cycle, reaches}
use Rattle.asset_cycles.proofs.LeavingLemmas.{below_within}
use Rattle.asset_cycles.proofs.CycleLemmas.{met_round, met_both, met_neither}
use Rattle.asset_cycles.proofs.labelling.Search.label_cycle.Goals as goal

pub spread-requires-clause-within : goal.spread-requires-clause-within
spread-requires-clause-within c =
    let graph = c.args.self.now.graph in
    subst (AreWithin graph.backward.arrows.items) (graph.same_count ∙ sym c.args.self.now.behind_size) (below_within graph.backward.arrows.items (length graph.backward.leaving) graph.backward.below)

pub spread-requires-then-leads_to_met-clause-within : goal.spread-requires-then-leads_to_met-clause-within
spread-requires-then-leads_to_met-clause-within c =
    let graph = c.args.self.now.graph in
    subst (AreWithin graph.forward.arrows.items) (sym c.args.self.now.ahead_size) (below_within graph.forward.arrows.items (length graph.forward.leaving) graph.forward.below)

pub returns-then-leads_to_met-clause-labels : goal.returns-then-leads_to_met-clause-labels
returns-then-leads_to_met-clause-labels c = λ n below.
    let graph = c.args.self.now.graph in
    let arrows = graph.forward.arrows.items in
    let back = graph.backward.arrows.items in
    let round : reaches arrows c.args.node c.args.node ≡ true = sym (met_round arrows back c.spread.new.marks.nodes c.args.node graph.turned_round c.spread.ensures.met) ∙ sym c.leads_to_met.ensures ∙ c.if-leads_to_met.true in
    let both : (lists c.spread-then-leads_to_met.new.marks.nodes n && lists c.spread.new.marks.nodes n) ≡ on_one_cycle arrows c.args.node n =
    (λ m. c.spread-then-leads_to_met.ensures.met n m && c.spread.ensures.met n m) ∙ met_both arrows back c.args.node n graph.turned_round round
    in
    c.label_met.ensures n below ∙ ap (λ b. cond b (Some c.args.node) (get_or c.args.labels.now n None)) both

pub returns-else-leads_to_met-clause-labels : goal.returns-else-leads_to_met-clause-labels
returns-else-leads_to_met-clause-labels c = λ n below.
    let graph = c.args.self.now.graph in
    let arrows = graph.forward.arrows.items in
    let none : reaches arrows c.args.node c.args.node ≡ false = sym (met_round arrows graph.backward.arrows.items c.spread.new.marks.nodes c.args.node graph.turned_round c.spread.ensures.met) ∙ sym c.leads_to_met.ensures ∙ c.if-leads_to_met.false in
    ap (λ b. cond b (Some c.args.node) (get_or c.args.labels.now n None)) (sym (met_neither arrows c.args.node n none))
