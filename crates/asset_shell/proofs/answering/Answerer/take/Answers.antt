use Rattle.asset_shell.specs.Answering.{session_of}
use Rattle.asset_shell.specs.Sessions.{reason_for}
use Rattle.asset_shell.proofs.AnsweringLemmas.{joint_after, reply_taken, seen_shown, session_taken, tells_some}
use Rattle.asset_shell.proofs.answering.Answerer.take.Goals as goal

pub returns-clause-replies : goal.returns-clause-replies
returns-clause-replies c =
    let i = c.self.inside in
    let tells = c.in_ok-found.ensures.mistake c.args.step.now c.requires.says in
    rw (← c.self.view_is, reply_taken (session_of i.core i.checker i.capacity) i.number c.args.line.now c.args.said c.args.step.now c.requires.no_step c.requires.says, seen_shown i.core i.checker i.capacity c.self.invariant.0) (c.in_ok-say_if_bad.ensures.replies _ tells)

pub returns-clause-reasons : goal.returns-clause-reasons
unfolding reason_for
returns-clause-reasons c =
    let i = c.self.inside in
    let tells = c.in_ok-found.ensures.mistake c.args.step.now c.requires.says in
    rw (← c.self.view_is, seen_shown i.core i.checker i.capacity c.self.invariant.0) (c.in_ok-say_if_bad.ensures.reasons _ tells)

pub returns-clause-session : goal.returns-clause-session
returns-clause-session c =
    let i = c.self.inside in
    rw (← c.self.view_is) (session_taken i.core i.checker _ i.capacity c.args.line.now c.args.said c.args.step.now c.self.invariant.0 c.requires.no_step c.requires.says (c.in_ok-found.ensures.seen c.args.step.now c.requires.says))

pub returns-clause-bad : goal.returns-clause-bad
returns-clause-bad c =
    let i = c.self.inside in
    let tells = c.in_ok-found.ensures.mistake c.args.step.now c.requires.says in
    rw (← c.self.view_is, seen_shown i.core i.checker i.capacity c.self.invariant.0, ← tells_some _ _ tells, ← c.is_some.ensures) c.first_of-self-inside.ensures

pub invariant_of-self : goal.invariant_of-self
invariant_of-self c = (rw c.in_err-found.ensures.unchanged c.self.invariant.0, c.self.invariant.1)

pub invariant_of-self-in_err-say_if_bad : goal.invariant_of-self-in_err-say_if_bad
invariant_of-self-in_err-say_if_bad c =
    let i = c.self.inside in
    (joint_after i.core i.checker _ c.args.line.now c.args.said c.args.step.now c.self.invariant.0 c.requires.no_step c.requires.says (c.in_ok-found.ensures.seen c.args.step.now c.requires.says), c.self.invariant.1)

pub invariant_of-self-2 : goal.invariant_of-self-2
invariant_of-self-2 c =
    let i = c.self.inside in
    (joint_after i.core i.checker _ c.args.line.now c.args.said c.args.step.now c.self.invariant.0 c.requires.no_step c.requires.says (c.in_ok-found.ensures.seen c.args.step.now c.requires.says), c.self.invariant.1)
