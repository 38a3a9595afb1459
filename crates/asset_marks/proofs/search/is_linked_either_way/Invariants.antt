use Rattle.std.proofs.Common.{◌≡◌, ◌<◌, ◌-◌}
use Rattle.asset_marks.proofs.search.is_linked_either_way.Given as goal

-- there are as many nodes as before, and at least one is expanded
abbrev pub invariant-rounds : goal.invariant-rounds
invariant-rounds g l = (l.marks.size ≡ l.fn.marks.size) × (0 < l.most)

abbrev pub decreases-rounds : goal.decreases-rounds
decreases-rounds g l = l.all - l.most
