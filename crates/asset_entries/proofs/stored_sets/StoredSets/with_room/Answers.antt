use Rattle.std.proofs.Common.{refl}
use Rattle.asset_entries.specs.StoredSets.{sets_of}
use Rattle.asset_entries.proofs.stored_sets.StoredSets.with_room.Goals as goal

pub returns-clause-sets : goal.returns-clause-sets
unfolding sets_of
returns-clause-sets c = rw c.in_ok-with_capacity-2.ensures.items refl

pub returns-clause-room : goal.returns-clause-room
unfolding sets_of
returns-clause-room c = refl
