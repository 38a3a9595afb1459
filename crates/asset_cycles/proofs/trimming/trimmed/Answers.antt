use Rattle.std.proofs.Common.{◌≡◌, ◌∙◌, ℕ, not, sym, ap, subst}
use Rattle.asset_names.specs.Arrows.{lists, among}
use Rattle.std.proofs.lemmas.Result.{IfOk-weaker}
use Rattle.asset_cycles.specs.Cyclic.{AreBelow, cycle_labels}
use Rattle.asset_cycles.proofs.TrimLemmas.{same_labels, left_below}
use Rattle.asset_cycles.proofs.trimming.trimmed.Goals as goal

pub returns-clause-below : goal.returns-clause-below
returns-clause-below c =
    let arrows = c.args.arrows.items in
    let count = c.args.count in
    let test = λ (n : ℕ). not (lists c.taken.trim.taken.nodes n) in
    let same = c.deref.ensures.value ∙ c.taken.invariant.0 in
    IfOk-weaker c.left.result _ (λ left. AreBelow left.items count) (λ left is. subst (λ l. AreBelow l count) (sym (is ∙ ap (among test) same)) (left_below test arrows count c.requires)) c.left.ensures

pub returns-clause-labels : goal.returns-clause-labels
returns-clause-labels c =
    let arrows = c.args.arrows.items in
    let count = c.args.count in
    let test = λ (n : ℕ). not (lists c.taken.trim.taken.nodes n) in
    let graph = c.taken.trim.graph.forward.arrows.items in
    IfOk-weaker c.left.result _ (λ left. cycle_labels left.items count ≡ cycle_labels arrows count) (λ left is.
    ap (λ l. cycle_labels l count) (is ∙ ap (among test) c.deref.ensures.value)
    ∙ same_labels (among test graph) graph count c.taken.trim.trimmed
    ∙ ap (λ l. cycle_labels l count) c.taken.invariant.0) c.left.ensures
