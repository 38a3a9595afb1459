use Rattle.std.proofs.Common.{length, ◌-◌, ◌≡◌, ◌+◌, ◌≤◌, drop}
use Rattle.asset_entries.specs.Stored.{position}
use Rattle.asset_entries.proofs.stored_set.position.Given as goal

-- the object is not among those before the index
abbrev pub invariant-objects : goal.invariant-objects
invariant-objects l = (l.index ≤ length l.objects) × (position l.x l.objects ≡ l.index + position l.x (drop l.index l.objects))

abbrev pub decreases-objects : goal.decreases-objects
decreases-objects l = length l.objects - l.index
