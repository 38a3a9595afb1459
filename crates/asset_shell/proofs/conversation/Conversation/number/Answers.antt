use Rattle.std.proofs.Common.{rules}
use Rattle.asset_shell.proofs.conversation.Conversation.number.Goals as goal

pub returns : goal.returns
returns c = search rules
