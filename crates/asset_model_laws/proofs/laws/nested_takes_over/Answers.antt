use Rattle.asset_model_laws.proofs.NestedLaw.{done_hands_over, nested_hands_over}
use Rattle.asset_model_laws.proofs.KeptLaw.{nested_keeps}
use Rattle.asset_model_laws.proofs.laws.nested_takes_over.Goals as goal

pub returns-clause-handed : goal.returns-clause-handed
returns-clause-handed c = λ opening others p children old calls new result child legal run amid called. done_hands_over others old calls new child p.name amid called

pub returns-clause-kept : goal.returns-clause-kept
returns-clause-kept c = nested_keeps

pub returns-clause-children : goal.returns-clause-children
returns-clause-children c = λ opening others p children old calls new legal run amid. (nested_hands_over opening others p children old calls new legal run amid).0

pub returns-clause-parent : goal.returns-clause-parent
returns-clause-parent c = λ opening others p children old calls new legal run amid. (nested_hands_over opening others p children old calls new legal run amid).1
