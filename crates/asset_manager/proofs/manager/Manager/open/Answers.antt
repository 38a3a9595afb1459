use Rattle.std.proofs.Common.{rules, ◌∙◌, ap}
use Rattle.asset_core.specs.Pending.{Facility}
use Rattle.asset_manager.proofs.ServeLemmas.{opened_is_empty}
use Rattle.asset_manager.proofs.manager.Manager.open.Goals as goal

pub over-requires-clause-empty : goal.over-requires-clause-empty
over-requires-clause-empty c = ap (λ (facility : Facility). facility.history.entries) c.in_ok-core.ensures.opened ∙ opened_is_empty _ _

pub returns-in_err-core-clause-fault : goal.returns-in_err-core-clause-fault
returns-in_err-core-clause-fault c = search rules

pub returns-in-Ok-clause-may : goal.returns-in-Ok-clause-may
returns-in-Ok-clause-may c = search rules
