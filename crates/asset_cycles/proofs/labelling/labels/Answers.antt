use Rattle.std.proofs.Common.{◌≡◌, ◌<◌, ◌∙◌, not, cond, Some, None, length, get_or, sym, ap, arith}
use Rattle.std.proofs.lemmas.List.{length-replicate, get_or-replicate, get_or_read, with_items_is}
use Rattle.asset_names.proofs.Common.{some_of, none_of}
use Rattle.asset_cycles.specs.Cyclic.{on_one_cycle, label_below}
use Rattle.asset_cycles.proofs.CycleLemmas.{first_labels, labelled_before, labelled_here, all_labels}
use Rattle.asset_cycles.proofs.labelling.labels.Goals as goal
use Rattle.asset_cycles.proofs.labelling.labels.Goals.{then-is_none, else-is_none}

pub nodes-init : goal.nodes-init
nodes-init c = record {
  arrows = c.in_ok-search.ensures.arrows;
  count = c.in_ok-search.ensures.count;
  long = ap length c.in_ok-labels.ensures ∙ length-replicate c.args.count None;
  least = λ n below. ap (λ l. get_or l n None) c.in_ok-labels.ensures ∙ get_or-replicate c.args.count n None None below ∙ sym (first_labels c.args.arrows.items n);
}

pub nodes-preserved : goal.nodes-preserved
nodes-preserved c =
    let arrows = c.args.arrows.items in
    let node = c.nodes.node in
    let below : node < length c.nodes.labels.items = omega (arith, c.nodes-test.true, c.nodes.invariant.long) in
    let read : c.index.result.now ≡ label_below arrows node node = get_or_read c.nodes.labels.items node c.index.result.now below c.index.ensures None ∙ c.nodes.invariant.least node c.nodes-test.true in
    elim c.if-is_none.branch [
      | then-is_none w ↦
          let same : w.label_cycle.new.self.graph ≡ c.nodes.search.graph = w.label_cycle.ensures.graph in
          let graph : c.nodes.search.graph.forward.arrows.items ≡ arrows = c.nodes.invariant.arrows in
          let none : label_below arrows node node ≡ None = sym read ∙ none_of c.index.result.now (c.is_none.ensures ∙ ap not w.if-is_none.true) in
          let new = w.label_cycle.new.labels in
          let items : c.if-is_none.labels.items ≡ new = ap (λ v. v.items) w.labels-is ∙ with_items_is c.nodes.labels new (w.label_cycle.auto.labels ∙ w.deref_mut.ensures.len) in
          record {
            arrows = ap (λ s. s.graph.forward.arrows.items) w.search-is ∙ ap (λ f. f.forward.arrows.items) same ∙ graph;
            count = ap (λ s. length s.graph.forward.leaving) w.search-is ∙ ap (λ f. length f.forward.leaving) same ∙ c.nodes.invariant.count;
            long = ap length items ∙ w.label_cycle.auto.labels ∙ ap length w.deref_mut.ensures.value ∙ c.nodes.invariant.long;
            least = λ n inside.
                ap (λ l. get_or l n None) items
                ∙ w.label_cycle.ensures.labels n (omega (arith, ap length w.deref_mut.ensures.value, c.nodes.invariant.long))
                ∙ ap (λ e. cond (on_one_cycle e node n) (Some node) (get_or w.deref_mut.result.now n None)) graph
                ∙ ap (λ l. cond (on_one_cycle arrows node n) (Some node) (get_or l n None)) w.deref_mut.ensures.value
                ∙ ap (cond (on_one_cycle arrows node n) (Some node)) (c.nodes.invariant.least n inside)
                ∙ sym (labelled_here arrows node n none);
          }
      | else-is_none w ↦
          let some = some_of c.index.result.now (c.is_none.ensures ∙ ap not w.if-is_none.false) in
          record {
            arrows = ap (λ s. s.graph.forward.arrows.items) w.search-is ∙ c.nodes.invariant.arrows;
            count = ap (λ s. length s.graph.forward.leaving) w.search-is ∙ c.nodes.invariant.count;
            long = ap (λ v. length v.items) w.labels-is ∙ c.nodes.invariant.long;
            least = λ n inside. ap (λ v. get_or v.items n None) w.labels-is ∙ c.nodes.invariant.least n inside ∙ sym (labelled_before arrows node n some.0 (sym read ∙ some.1));
          }
    ]

pub returns : goal.returns
returns c =
    let all : c.nodes.node ≡ c.args.count = omega (arith, c.nodes-test.false, c.nodes.auto.node-end) in
    all_labels c.args.arrows.items c.args.count c.nodes.labels.items c.nodes.invariant.long (λ n below. c.nodes.invariant.least n below ∙ ap (λ bound. label_below c.args.arrows.items bound n) all)
