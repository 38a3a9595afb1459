use Rattle.std.proofs.Common.{◌∙◌, refl, sym, ap, arith}
use Rattle.std.proofs.lemmas.Bool.{leb-true}
use Rattle.asset_names.specs.Steps.{applied}
use Rattle.asset_names.specs.Room.{fits}
use Rattle.asset_names.specs.Answers.{IsLegal}
use Rattle.asset_entries.specs.Recorded.{answer_to, after, with_entry, has_room, is_ending}
use Rattle.asset_core.specs.Pending.{pending_after}
use Rattle.asset_core.specs.Tables.{pending_in}
use Rattle.asset_steps.specs.Stepped.{ShowsOutcome, locks_with}
use Rattle.asset_core.proofs.ValidLemmas.{valid_orderly, no_ending, askers_followed}
use Rattle.asset_core.proofs.PendingLemmas.{pending_requests, askers_waiting, waits_still}
use Rattle.asset_core.proofs.PlaceLemmas.{step_room}
use Rattle.asset_core.proofs.StepLemmas.{answered_step, waiting_step, lacking_step}
use Rattle.asset_core.proofs.facility.Core.step_at_once.Goals as goal

pub append_lent-requires-clause-answer : goal.append_lent-requires-clause-answer
unfolding answer_to
append_lent-requires-clause-answer c =
    let stepped = rw c.in-Ok-Answer.field-0-is at c.in-Ok-Answer.ensures.stepped in
    sym (stepped.answered _ _ c.self.invariant.stand)

pub invariant_of-self : goal.invariant_of-self
unfolding with_entry answer_to IsLegal has_room fits ShowsOutcome
invariant_of-self c =
    let history = c.self.inside.history in
    let stepped = rw c.in-Ok-Answer.field-0-is at c.in-Ok-Answer.ensures.stepped in
    let orderly = valid_orderly history c.self.inside.tables c.self.invariant in
    let room = rw (← c.self.view_is) at c.requires.room in
    let roomy = step_room history c.args.step.now c.in-Ok-Answer.answer c.self.invariant.legal (sym (stepped.answered _ _ c.self.invariant.stand)) room in
    rw c.append_lent.ensures (record {
      stand = stepped.stands history.opening history.entries c.self.invariant.stand orderly;
      legal = (sym (stepped.answered _ _ c.self.invariant.stand), c.self.invariant.legal);
      fitting = omega (arith, leb-true _ _ roomy);
      capacity = c.self.invariant.capacity;
    })

pub invariant_of-self-in-Ok-Wait : goal.invariant_of-self-in-Ok-Wait
unfolding ShowsOutcome
invariant_of-self-in-Ok-Wait c =
    let stepped = rw c.in-Ok-Wait.field-0-is at c.in-Ok-Wait.ensures.stepped in
    record {
      stand = stepped.stands _ _ c.self.invariant.stand;
      legal = c.self.invariant.legal;
      fitting = c.self.invariant.fitting;
      capacity = c.self.invariant.capacity;
    }

pub returns-in-Ok-Answer : goal.returns-in-Ok-Answer
unfolding pending_in pending_after after answer_to with_entry has_room locks_with
returns-in-Ok-Answer c =
    let history = c.self.inside.history in
    let stepped = rw c.in-Ok-Answer.field-0-is at c.in-Ok-Answer.ensures.stepped in
    let orderly = valid_orderly history c.self.inside.tables c.self.invariant in
    let room = rw (← c.self.view_is) at c.requires.room in
    let roomy = step_room history c.args.step.now c.in-Ok-Answer.answer c.self.invariant.legal (sym (stepped.answered _ _ c.self.invariant.stand)) room in
    let answer = sym (stepped.answered history.opening (applied history.entries) c.self.invariant.stand) in
    rw (← c.self.view_is) (answered_step _ _ c.args.step.now c.in-Ok-Answer.answer answer roomy c.append_lent.ensures
    (ap pending_requests stepped.locks ∙ askers_followed history.opening history.entries c.self.inside.tables c.args.step.now c.in-Ok-Answer.answer c.self.invariant.stand answer))

pub returns-in-Ok-Wait : goal.returns-in-Ok-Wait
unfolding pending_in pending_after after answer_to locks_with
returns-in-Ok-Wait c =
    let history = c.self.inside.history in
    let stepped = rw c.in-Ok-Wait.field-0-is at c.in-Ok-Wait.ensures.stepped in
    let answer = sym (stepped.answered history.opening (applied history.entries) c.self.invariant.stand) in
    rw (← c.self.view_is) (waiting_step _ _ c.args.step.now answer refl
    (ap pending_requests stepped.locks ∙ sym (askers_waiting _ _ c.self.inside.tables c.args.step.now c.self.invariant.stand))
    (λ none. λ i. record { history = history; pending = pending_requests ((stepped.locks ∙ waits_still c.args.step.now c.self.inside.tables none) i) }))

pub returns-in-Err : goal.returns-in-Err
unfolding pending_in is_ending answer_to
returns-in-Err c =
    let history = c.self.inside.history in
    let lacked = c.in-Err.ensures.lacked in
    let answer = lacked.answered _ _ c.self.invariant.stand in
    let room = rw (← c.self.view_is) at c.requires.room in
    let roomy = step_room history c.args.step.now lacked.reply c.self.invariant.legal answer room in
    rw (← c.self.view_is) (lacking_step _ _ c.args.step.now lacked.reply answer roomy lacked.memory lacked.effect (no_ending _ c.args.step.now lacked.reply lacked.memory)
    (λ i. record { history = history; pending = pending_requests (lacked.same.locks i) }))
