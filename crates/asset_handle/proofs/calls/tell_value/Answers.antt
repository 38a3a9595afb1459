use Rattle.std.proofs.Common.{rules}
use Rattle.asset_handle.proofs.calls.tell_value.Goals as goal

pub returns-in-Some : goal.returns-in-Some
returns-in-Some c = search rules
