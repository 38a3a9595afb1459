use Rattle.std.proofs.Common.{rules}
use Rattle.asset_scripts.proofs.device.Device.new.Goals as goal

pub returns-clause-unused : goal.returns-clause-unused
returns-clause-unused g c = search rules
