use Rattle.std.proofs.Common.{ap}
use Rattle.asset_records.specs.Dropped.{added_by}
use Rattle.asset_records.proofs.mending.added_at.Goals as goal

pub returns-in-None : goal.returns-in-None
unfolding added_by
returns-in-None c = ap added_by c.in-None.ensures
