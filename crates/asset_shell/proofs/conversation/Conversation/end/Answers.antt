use Rattle.std.proofs.Common.{rules}
use Rattle.asset_scripts.specs.Renders.{end_at}
use Rattle.asset_shell.proofs.conversation.Conversation.end.Goals as goal

pub returns-in-Some : goal.returns-in-Some
unfolding end_at
returns-in-Some c = search rules
