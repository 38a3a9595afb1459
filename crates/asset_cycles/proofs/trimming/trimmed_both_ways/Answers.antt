use Rattle.std.proofs.Common.{◌≡◌, ◌∙◌, sym, ap, subst}
use Rattle.std.proofs.lemmas.Result.{IfOk-weaker}
use Rattle.asset_cycles.specs.Cyclic.{AreBelow, turned, cycle_labels}
use Rattle.asset_cycles.proofs.LeavingLemmas.{turned_below}
use Rattle.asset_cycles.proofs.TrimLemmas.{turned_labels}
use Rattle.asset_cycles.proofs.trimming.trimmed_both_ways.Goals as goal

pub trimmed-requires-2 : goal.trimmed-requires-2
trimmed-requires-2 c =
    let is = c.in_ok-back.ensures ∙ ap turned c.deref.ensures.value in
    subst (λ l. AreBelow l c.args.count) (sym is) (turned_below c.in_ok-left.left.items c.args.count c.in_ok-left.ensures.below)

pub returns-clause-labels : goal.returns-clause-labels
returns-clause-labels c =
    let count = c.args.count in
    let is = c.in_ok-back.ensures ∙ ap turned c.deref.ensures.value in
    IfOk-weaker c.trimmed-2.result _ (λ left. cycle_labels left.items count ≡ cycle_labels c.args.arrows.now count) (λ left same.
    same
    ∙ ap (λ l. cycle_labels l count) is
    ∙ turned_labels c.in_ok-left.left.items count
    ∙ c.in_ok-left.ensures.labels
    ∙ ap (λ l. cycle_labels l count) c.in_ok-from_slice.ensures.items) c.trimmed-2.ensures.labels
