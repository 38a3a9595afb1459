use Rattle.asset_shell.proofs.WholeLemmas.{lacks_kept}
use Rattle.asset_shell.proofs.conversation.Conversation.hear_part.Goals as goal

pub invariant_of-self : goal.invariant_of-self
invariant_of-self c = (c.keep.ensures.few, rw c.in_err-keep.ensures.unchanged c.self.invariant.1)

pub invariant_of-self-2 : goal.invariant_of-self-2
invariant_of-self-2 c = (c.keep.ensures.few, rw c.in_ok-keep.ensures.kept (lacks_kept c.self.inside.begun.items c.args.bytes.now c.self.invariant.1 c.requires.one))
