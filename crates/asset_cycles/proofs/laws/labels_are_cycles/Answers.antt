use Rattle.std.proofs.Common.{sym, ◌∙◌}
use Rattle.asset_cycles.proofs.CycleLemmas.{label_at}
use Rattle.asset_cycles.proofs.LawLemmas.{reach_by_chain, chain_reaches, cycle_by_chains, chains_cycle, same_label, one_label, none_reaches, reaches_some}
use Rattle.asset_cycles.proofs.laws.labels_are_cycles.Goals as goal

pub returns-clause-same : goal.returns-clause-same
returns-clause-same c = λ arrows count u v first second.
    let at_u = label_at arrows count u first in
    let at_v = label_at arrows count v second in (
      λ same. cycle_by_chains arrows u v (same_label arrows count u v (sym at_u ∙ same.0 ∙ at_v) (λ none. same.1 (at_u ∙ none))),
      λ cycle.
          let one = one_label arrows count u v second (chains_cycle arrows u v cycle) in
          (at_u ∙ one.0 ∙ sym at_v, λ none. one.1 (sym at_u ∙ none)),
    )

pub returns-clause-none : goal.returns-clause-none
returns-clause-none c = λ arrows count u below. (
  λ none way. none_reaches arrows count u below (sym (label_at arrows count u below) ∙ none) (chain_reaches arrows u u way),
  λ never. label_at arrows count u below ∙ reaches_some arrows count u (λ h. never (reach_by_chain arrows u u h)),
)
