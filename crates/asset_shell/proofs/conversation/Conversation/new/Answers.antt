use Rattle.std.proofs.Common.{arith}
use Rattle.asset_shell.proofs.WholeLemmas.{lacks_none}
use Rattle.asset_shell.proofs.conversation.Conversation.new.Goals as goal

pub invariant_of-result : goal.invariant_of-result
invariant_of-result c = (omega (arith, c.new-2.ensures.len), rw c.new-2.ensures.items lacks_none)
