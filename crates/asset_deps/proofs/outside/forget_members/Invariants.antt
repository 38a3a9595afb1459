use Rattle.std.proofs.Common.{◌≡◌, ◌-◌, length}
use Rattle.asset_deps.proofs.OutsideLemmas.{IsForgotten}
use Rattle.asset_deps.proofs.outside.forget_members.Given as goal

-- the first few of the members are forgotten
abbrev pub invariant-members : goal.invariant-members
invariant-members l = (l.found.size ≡ l.fn.found.size) × IsForgotten l.class.nodes l.fn.found.nodes l.found.nodes l.next

abbrev pub decreases-members : goal.decreases-members
decreases-members l = length l.class.nodes - l.next
