use Rattle.std.proofs.Common.{◌+◌, ◌*◌}
use Rattle.asset_reference.proofs.endings.+ending.Given as goal

-- how somebody ended by some entries is asked of fewer entries, and a way goes over those that are left
abbrev pub decreases-end_within : goal.decreases-end_within
decreases-end_within l = l.count * 1000000000000000000000

abbrev pub decreases-live_within : goal.decreases-live_within
decreases-live_within l = l.count * 1000000000000000000000 + 1

abbrev pub decreases-linked_within : goal.decreases-linked_within
decreases-linked_within l = l.counts.0 * 1000000000000000000000 + 4 * l.counts.1 + 2

abbrev pub decreases-goes_by : goal.decreases-goes_by
decreases-goes_by l = l.counts.0 * 1000000000000000000000 + 4 * l.counts.1 + 4

abbrev pub decreases-takes : goal.decreases-takes
decreases-takes l = l.count * 1000000000000000000000 + 100000000000000000000

abbrev pub decreases-ended_by : goal.decreases-ended_by
decreases-ended_by l = l.count * 1000000000000000000000 + 200000000000000000000
