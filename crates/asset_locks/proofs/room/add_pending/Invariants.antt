use Rattle.std.proofs.Common.{◌≡◌, ℕ, ◌+◌, ◌-◌, ◌≤◌, length}
use Rattle.asset_locks.specs.Tied.{pending_at}
use Rattle.asset_locks.proofs.room.add_pending.Given as goal

-- places were added, and no request changed
abbrev pub invariant-places : goal.invariant-places
invariant-places l = record {
  more : length l.initial.pending.items ≤ length l.pending.items;
  same : (d : ℕ) → pending_at l.pending.items d ≡ pending_at l.initial.pending.items d;
}

abbrev pub decreases-places : goal.decreases-places
decreases-places l = l.c + 1 - length l.pending.items
