use Rattle.std.proofs.Common.{sym}
use Rattle.asset_core.proofs.StepLemmas.{waiting_step}
use Rattle.asset_core.proofs.facility.Core.ask.Goals as goal

pub wait-requires : goal.wait-requires
wait-requires c = record { waits = rw c.answer.ensures.same (sym c.in-Wait.ensures.answer) }

pub record-requires : goal.record-requires
record-requires c = record { answer = rw c.answer.ensures.same (sym c.in-Answer.ensures.answer) }

pub returns-in-Wait : goal.returns-in-Wait
returns-in-Wait c =
    rw (← c.answer.ensures.same) (waiting_step _ _ c.args.step.now (rw c.answer.ensures.same (sym c.in-Wait.ensures.answer)) c.wait.ensures.history c.wait.ensures.pending c.wait.ensures.still)

pub returns-in-Answer : goal.returns-in-Answer
returns-in-Answer c = rw (← c.answer.ensures.same) c.record.ensures
