use Rattle.std.proofs.Common.{sym, ◌∙◌}
use Rattle.std.proofs.lemmas.Bool.{true≢false, false_from_ne_true}
use Rattle.asset_cycles.specs.Cyclic.{on_one_cycle}
use Rattle.asset_cycles.proofs.CycleLemmas.{label_least, label_found, label_at}
use Rattle.asset_cycles.proofs.LawLemmas.{cycle_by_chains, chains_cycle}
use Rattle.asset_cycles.proofs.laws.label_is_least.Goals as goal

pub returns : goal.returns
returns c = λ arrows count u label below. (
  λ is.
      let least = label_least arrows count u label (sym (label_at arrows count u below) ∙ is) in
      (least.below, cycle_by_chains arrows u label least.passes, λ n earlier cycle. true≢false (sym (chains_cycle arrows u n cycle) ∙ least.least n earlier)),
  λ h. label_at arrows count u below ∙ label_found arrows count u label (record {
    below = h.0;
    passes = chains_cycle arrows u label h.1;
    least = λ n earlier. false_from_ne_true (on_one_cycle arrows u n) (λ on. h.2 n earlier (cycle_by_chains arrows u n on));
  }),
)
