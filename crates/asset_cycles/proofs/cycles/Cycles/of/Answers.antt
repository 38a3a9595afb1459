use Rattle.std.proofs.Common.{◌≡◌, ◌∙◌, ℕ, ◌<◌, List, Option, None, Some, length, get_or, sym, ap, subst, arith}
use Rattle.asset_buckets.specs.Bucketed.{buckets_of}
use Rattle.asset_cycles.specs.Cyclic.{cycle_labels}
use Rattle.asset_cycles.specs.Members.{own_labels, label_numbers}
use Rattle.asset_cycles.proofs.CycleLemmas.{labels_below}
use Rattle.asset_cycles.proofs.cycles.Cycles.of.Goals as goal

pub invariant_of-result : goal.invariant_of-result
invariant_of-result c =
    let labels = c.in_ok-labels.labels.items in
    let arrows = c.args.arrows.now in
    let is : labels ≡ cycle_labels arrows c.args.count = c.in_ok-labels.ensures ∙ c.in_ok-left.ensures.labels in
    let count : c.len.result ≡ length labels = omega (arith, c.len.ensures, c.in_ok-labels.labels.ok.0) in
    record {
      labels_once = c.in_ok-own.ensures ∙ ap own_labels c.deref.ensures.value;
      in_buckets = c.in_ok-members.ensures
          ∙ ap (λ l. buckets_of l c.len.result) (c.deref-3.ensures.value ∙ c.in_ok-numbers.ensures ∙ ap label_numbers c.deref-2.ensures.value)
          ∙ ap (buckets_of (label_numbers labels)) count;
      below = λ k label has. subst (λ (l : List (Option ℕ)). label < length l) (sym is) (labels_below arrows c.args.count k label (subst (λ (l : List (Option ℕ)). get_or l k None ≡ Some label) is has));
    }
