use Rattle.std.proofs.Common.{◌≡◌, take, reverse}
use Rattle.asset_names.specs.Groups.{kept}
use Rattle.asset_deletion.specs.Going.{keeps}
use Rattle.asset_deletion.proofs.deleting.copy_staying.Given as goal

-- the first entries that stay are copied
abbrev pub invariant-entries : goal.invariant-entries
invariant-entries l = l.left ≡ (record l.history { entries = kept (keeps l.groups l.going.items) (reverse (take l.i (reverse l.history.entries))) })
