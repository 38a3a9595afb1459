use Rattle.std.proofs.Common.{◌∙◌, arith}
use Rattle.asset_shell.proofs.TalkLemmas.{kept_part}
use Rattle.asset_shell.proofs.conversation.keep.Goals as goal

pub returns-clause-kept : goal.returns-clause-kept
returns-clause-kept c = c.in_ok-extend_from_slice.ensures.items ∙ kept_part 4097 c.min-count.result c.args.begun.now.items c.args.bytes.now c.requires (omega (arith, c.min-count.ensures, c.len-room.ensures))
