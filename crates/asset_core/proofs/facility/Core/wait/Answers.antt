use Rattle.std.proofs.Common.{◌∙◌, sym, ap}
use Rattle.asset_entries.specs.Recorded.{answer_to, after}
use Rattle.asset_core.specs.Pending.{pending_after}
use Rattle.asset_core.specs.Tables.{pending_in}
use Rattle.asset_steps.proofs.ReadyLemmas.{may_wait}
use Rattle.asset_core.proofs.PendingLemmas.{pending_requests, askers_waiting, waits_still}
use Rattle.asset_core.proofs.facility.Core.wait.Goals as goal

pub wait-requires : goal.wait-requires
unfolding answer_to
wait-requires c = record { waits = may_wait _ _ c.self.inside.tables c.args.step.now c.self.invariant.stand (rw (← c.self.view_is) at c.requires.waits) }

pub invariant_of-self : goal.invariant_of-self
invariant_of-self c = record {
  stand = c.wait.ensures.stand _ _ c.self.invariant.stand;
  legal = c.self.invariant.legal;
  fitting = c.self.invariant.fitting;
  capacity = c.self.invariant.capacity;
}

pub returns-clause-pending : goal.returns-clause-pending
unfolding pending_in pending_after after
returns-clause-pending c = rw (← c.self.view_is) (ap pending_requests c.wait.ensures.locks ∙ sym (askers_waiting _ _ c.self.inside.tables c.args.step.now c.self.invariant.stand))

pub returns-clause-still : goal.returns-clause-still
unfolding pending_in
returns-clause-still c = λ none.
    rw (← c.self.view_is) (λ i. record { history = c.self.inside.history; pending = pending_requests ((c.wait.ensures.locks ∙ waits_still c.args.step.now c.self.inside.tables none) i) })
