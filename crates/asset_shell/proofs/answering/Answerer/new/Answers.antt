use Rattle.std.proofs.Common.{[], refl}
use Rattle.asset_shell.specs.Answering.{IsJoint, session_of}
use Rattle.asset_shell.specs.Sessions.{new_session}
use Rattle.asset_shell.proofs.answering.Answerer.new.Goals as goal

pub invariant_of-result : goal.invariant_of-result
unfolding IsJoint
invariant_of-result c = (([], c.new-checker.ensures), c.requires.capacity)

pub returns-clause-session : goal.returns-clause-session
unfolding session_of new_session
returns-clause-session c = rw c.new-checker.ensures refl

pub returns-clause-number : goal.returns-clause-number
returns-clause-number c = refl
