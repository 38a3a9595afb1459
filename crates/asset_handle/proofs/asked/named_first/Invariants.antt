use Rattle.std.proofs.Common.{◌≡◌, take, length}
use Rattle.asset_handle.specs.Listed.{objects_named}
use Rattle.asset_handle.proofs.asked.named_first.Given as goal

-- the slots so far have the objects that the numbers so far name
abbrev pub invariant-names : goal.invariant-names
invariant-names l = record {
  so_far : take l.i l.objects ≡ objects_named (take l.i l.names);
  long : length l.objects ≡ 16;
  named : length l.names ≡ 16;
}
