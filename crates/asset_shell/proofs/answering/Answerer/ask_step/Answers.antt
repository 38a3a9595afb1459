use Rattle.asset_shell.specs.Sessions.{session_by}
use Rattle.asset_shell.proofs.AnsweringLemmas.{joint_open, session_stepped}
use Rattle.asset_shell.proofs.answering.Answerer.ask_step.Goals as goal

pub ask_open-requires : goal.ask_open-requires
ask_open-requires c = c.in_ok-open_if_needed.ensures.open

pub returns-clause-replies : goal.returns-clause-replies
returns-clause-replies c = rw (← c.self.view_is) (rw c.in_ok-open_if_needed.ensures.history at c.in_ok-ask_open.ensures.text)

pub returns-clause-session : goal.returns-clause-session
unfolding session_by
returns-clause-session c = rw (← c.self.view_is) (session_stepped _ _ _ _ c.in_ok-ask_open.ensures.open (rw c.in_ok-open_if_needed.ensures.history at c.in_ok-ask_open.ensures.history))

pub invariant_of-self-in_err-ask_open : goal.invariant_of-self-in_err-ask_open
invariant_of-self-in_err-ask_open c = (joint_open _ _ c.ask_open.ensures.open c.in_ok-open_if_needed.ensures.ended, c.self.invariant.1)

pub invariant_of-self-2 : goal.invariant_of-self-2
invariant_of-self-2 c = (joint_open _ _ c.ask_open.ensures.open c.in_ok-open_if_needed.ensures.ended, c.self.invariant.1)
