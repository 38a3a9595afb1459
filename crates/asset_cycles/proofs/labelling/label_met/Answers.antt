use Rattle.std.proofs.Common.{◌<◌, ◌∙◌, length, sym, arith}
use Rattle.asset_names.specs.Arrows.{lists}
use Rattle.asset_cycles.proofs.LabelLemmas.{none_labelled, one_labelled, one_passed}
use Rattle.asset_cycles.proofs.labelling.label_met.Goals as goal
use Rattle.asset_cycles.proofs.labelling.label_met.Goals.{then-has, else-has}

pub ahead-init : goal.ahead-init
ahead-init c = none_labelled (lists c.args.behind.now.nodes) c.args.label c.args.labels.now

pub ahead-preserved : goal.ahead-preserved
ahead-preserved c =
    let nodes = c.args.ahead.now.nodes in
    let behind = lists c.args.behind.now.nodes in
    let below : c.ahead.k < length nodes = omega (arith, c.ahead-test.true, c.len-k-end.ensures.len) in
    elim c.if-has.branch [
      | then-has w ↦ rw w.labels-is (one_labelled nodes behind c.args.label c.ahead.k c.node-node.result c.args.labels.now c.ahead.labels below c.node-node.ensures.node c.ahead.auto.labels (omega (arith, c.node-node.ensures.within, c.requires.ahead)) (sym c.has.ensures ∙ w.if-has.true) c.ahead.invariant)
      | else-has w ↦ rw w.labels-is (one_passed nodes behind c.args.label c.ahead.k c.node-node.result c.args.labels.now c.ahead.labels below c.node-node.ensures.node (sym c.has.ensures ∙ w.if-has.false) c.ahead.invariant)
    ]
