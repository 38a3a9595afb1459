use Rattle.std.proofs.Common.{rules}
use Rattle.asset_program.specs.Doing.{LeadsTo}
use Rattle.asset_program.proofs.doing.do_asked.Goals as goal

pub returns-in-Ok-Jobs : goal.returns-in-Ok-Jobs
unfolding LeadsTo
returns-in-Ok-Jobs g c = search rules
