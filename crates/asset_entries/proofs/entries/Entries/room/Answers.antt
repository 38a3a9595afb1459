use Rattle.std.proofs.Common.{rules}
use Rattle.asset_entries.proofs.entries.Entries.room.Goals as goal

pub returns : goal.returns
returns c = search rules
