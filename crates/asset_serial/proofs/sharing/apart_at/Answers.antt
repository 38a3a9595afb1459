use Rattle.std.proofs.Common.{rules}
use Rattle.asset_serial.proofs.sharing.apart_at.Goals as goal

pub returns-in-Some : goal.returns-in-Some
returns-in-Some c = search rules
