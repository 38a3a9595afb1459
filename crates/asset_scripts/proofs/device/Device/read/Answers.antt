use Rattle.std.proofs.Common.{rules}
use Rattle.asset_scripts.proofs.device.Device.read.Goals as goal

pub returns-clause-asked : goal.returns-clause-asked
returns-clause-asked g c = search rules
