use Rattle.std.proofs.Common.{◌≡◌, take, length}
use Rattle.asset_names.specs.Sets.{numbers}
use Rattle.asset_handle.proofs.told.slots_of.Given as goal

-- the slots so far have the numbers of the objects so far
abbrev pub invariant-objects : goal.invariant-objects
invariant-objects l = record {
  so_far : take l.i l.slots ≡ numbers (take l.i l.objects);
  long : length l.slots ≡ 16;
}
