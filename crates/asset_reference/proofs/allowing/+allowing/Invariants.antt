use Rattle.std.proofs.Common.{◌+◌, ◌*◌, length}
use Rattle.asset_reference.proofs.allowing.+allowing.Given as goal

-- each way on takes fewer entries, and a search for one goes over those that are left
abbrev pub decreases-allows_within : goal.decreases-allows_within
decreases-allows_within l = l.count * (2 * length l.entries.now + 2)

abbrev pub decreases-goes_along : goal.decreases-goes_along
decreases-goes_along l = l.count * (2 * length l.entries.now + 2) + 2 * l.count + 2

abbrev pub decreases-leads_on : goal.decreases-leads_on
decreases-leads_on l = l.counts.1 * (2 * length l.entries.now + 2) + 2 * l.counts.0 + 1

abbrev pub decreases-leads_by : goal.decreases-leads_by
decreases-leads_by l = l.counts.1 * (2 * length l.entries.now + 2) + 2 * l.counts.0 + 2
