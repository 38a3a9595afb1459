use Rattle.std.proofs.Common.{rules}
use Rattle.asset_handle.specs.Told.{told_refusal}
use Rattle.asset_handle.proofs.told.plain_refusal.Goals as goal

pub returns-in-Ended : goal.returns-in-Ended
unfolding told_refusal
returns-in-Ended c = search rules
