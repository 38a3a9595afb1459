use Rattle.std.proofs.Common.{rules}
use Rattle.asset_deletion.proofs.deleting.stays_at.Goals as goal

pub returns-in-Some : goal.returns-in-Some
returns-in-Some c = search rules
