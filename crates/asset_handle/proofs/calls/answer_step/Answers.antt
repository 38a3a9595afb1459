use Rattle.std.proofs.Common.{rules}
use Rattle.asset_handle.proofs.calls.answer_step.Goals as goal

pub returns-in-Err-Full : goal.returns-in-Err-Full
returns-in-Err-Full c = search rules
