use Rattle.std.proofs.Common.{rules}
use Rattle.asset_handle.specs.Asked.{step_in}
use Rattle.asset_handle.proofs.asked.put_step.Goals as goal

pub returns-in-10-clause-there : goal.returns-in-10-clause-there
unfolding step_in
returns-in-10-clause-there c = search rules
