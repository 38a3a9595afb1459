use Rattle.std.proofs.Common.{rules}
use Rattle.asset_scripts.proofs.device.Device.asked.Goals as goal

pub returns : goal.returns
returns g c = search rules
