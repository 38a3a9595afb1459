use Rattle.std.proofs.Common.{◌+◌, ◌*◌}
use Rattle.asset_reference.proofs.openers.+opening.Given as goal

-- each call goes over fewer entries
abbrev pub decreases-opens_within : goal.decreases-opens_within
decreases-opens_within l = 2 * l.count

abbrev pub decreases-opens_by : goal.decreases-opens_by
decreases-opens_by l = 2 * l.count + 1
