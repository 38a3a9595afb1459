use Rattle.std.proofs.Common.{◌∙◌, refl, sym, ap, arith}
use Rattle.std.proofs.lemmas.Bool.{leb-true}
use Rattle.asset_names.specs.Room.{fits}
use Rattle.asset_names.specs.Answers.{IsLegal}
use Rattle.asset_entries.specs.Recorded.{answer_to, after, with_entry, has_room, is_ending}
use Rattle.asset_core.specs.Pending.{pending_after}
use Rattle.asset_core.specs.Tables.{pending_in}
use Rattle.asset_steps.proofs.ReadyLemmas.{ready}
use Rattle.asset_core.proofs.ValidLemmas.{valid_orderly, no_ending, askers_followed}
use Rattle.asset_core.proofs.PendingLemmas.{pending_requests}
use Rattle.asset_core.proofs.StepLemmas.{answered_step, full_step, lacking_step}
use Rattle.asset_core.proofs.facility.Core.record.Goals as goal

pub apply-requires : goal.apply-requires
unfolding answer_to
apply-requires c = record { ready = λ effect. ready _ _ c.self.inside.tables c.args.step.now c.args.reply c.self.invariant.stand (rw (← c.self.view_is) at c.requires.answer) effect }

pub invariant_of-self : goal.invariant_of-self
unfolding with_entry answer_to IsLegal has_room fits
invariant_of-self c =
    let history = c.self.inside.history in
    let roomy = rw (← c.self.view_is) at (sym c.has_room.ensures.room ∙ c.if-not-has_room.false) in
    rw c.append_lent.ensures (record {
      stand = c.in-Ok.ensures.stand history.opening history.entries c.self.invariant.stand (valid_orderly history c.self.inside.tables c.self.invariant);
      legal = (rw (← c.self.view_is) at c.requires.answer, c.self.invariant.legal);
      fitting = omega (arith, leb-true _ _ roomy);
      capacity = c.self.invariant.capacity;
    })

pub returns-then-not-has_room : goal.returns-then-not-has_room
returns-then-not-has_room c =
    full_step c.args.self.now _ c.args.step.now c.args.reply c.requires.answer (sym c.has_room.ensures.room ∙ c.if-not-has_room.true) (λ ends. sym c.has_room.ensures.room ∙ c.has_room.ensures.ending ends) refl

pub returns-in-Ok : goal.returns-in-Ok
unfolding pending_in pending_after after answer_to with_entry has_room
returns-in-Ok c =
    let history = c.self.inside.history in
    let answer = rw (← c.self.view_is) at c.requires.answer in
    rw (← c.self.view_is) (answered_step _ _ c.args.step.now c.args.reply answer (rw (← c.self.view_is) at (sym c.has_room.ensures.room ∙ c.if-not-has_room.false)) c.append_lent.ensures
    (ap pending_requests c.in-Ok.ensures.locks ∙ askers_followed history.opening history.entries c.self.inside.tables c.args.step.now c.args.reply c.self.invariant.stand answer))

pub returns-in-Err : goal.returns-in-Err
unfolding pending_in is_ending
returns-in-Err c =
    lacking_step c.args.self.now _ c.args.step.now c.args.reply c.requires.answer (sym c.has_room.ensures.room ∙ c.if-not-has_room.false) c.in-Err.ensures.memory.0 c.in-Err.ensures.memory.1
    (no_ending _ c.args.step.now c.args.reply c.in-Err.ensures.memory.0) (rw (← c.self.view_is) (λ i. record { history = c.self.inside.history; pending = pending_requests (c.in-Err.ensures.unchanged.locks i) }))
