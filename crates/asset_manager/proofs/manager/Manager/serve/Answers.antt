use Rattle.std.proofs.Common.{rules}
use Rattle.asset_manager.proofs.manager.Manager.serve.Goals as goal

pub returns-in-Ok-Answer-clause-asked : goal.returns-in-Ok-Answer-clause-asked
returns-in-Ok-Answer-clause-asked g c = search rules
