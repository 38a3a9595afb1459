use Rattle.std.proofs.Common.{rules}
use Rattle.asset_meetings.proofs.users.operated_at.Goals as goal

pub returns : goal.returns
returns c = search rules
