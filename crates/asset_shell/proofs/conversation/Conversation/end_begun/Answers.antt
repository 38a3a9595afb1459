use Rattle.std.proofs.Common.{arith}
use Rattle.asset_shell.proofs.WholeLemmas.{lacks_none}
use Rattle.asset_shell.proofs.conversation.Conversation.end_begun.Goals as goal

pub invariant_of-self-2 : goal.invariant_of-self-2
invariant_of-self-2 c = (omega (arith, c.clear.ensures.len), rw c.clear.ensures.items lacks_none)
