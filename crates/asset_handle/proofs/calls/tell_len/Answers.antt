use Rattle.std.proofs.Common.{rules}
use Rattle.asset_handle.proofs.calls.tell_len.Goals as goal

pub returns : goal.returns
returns c = search rules
