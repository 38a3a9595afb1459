use Rattle.asset_manager.proofs.AskLemmas.{served_later}
use Rattle.asset_manager.proofs.manager.Manager.serve_waiting.Goals as goal

pub returns-in-Ok-Answer : goal.returns-in-Ok-Answer
returns-in-Ok-Answer g c =
    served_later c.args.session.now c.loop.session _ c.args.step.now _ c.loop.invariant.2 c.loop.invariant.3 c.loop.invariant.0 c.loop.invariant.1
    (record { before = _; later = _; held = c.in-Ok-Answer.ensures.valid.0.held; serves = rw c.in-Ok-Answer.field-0-is at c.in-Ok-Answer.ensures.served })

pub returns-in-Err : goal.returns-in-Err
returns-in-Err g c =
    served_later c.args.session.now c.loop.session _ c.args.step.now _ c.loop.invariant.2 c.loop.invariant.3 c.loop.invariant.0 c.loop.invariant.1
    (record { before = _; later = _; held = c.in-Err.ensures.valid.0.held; serves = c.in-Err.ensures.served })
