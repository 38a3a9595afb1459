use Rattle.std.proofs.Common.{◌≡◌, take}
use Rattle.asset_serial.specs.Following.{entries_at, followed_by}
use Rattle.asset_serial.proofs.copying.copy_block.Given as goal

-- the entries at the first indices are copied
abbrev pub invariant-indices : goal.invariant-indices
invariant-indices l = l.left ≡ followed_by l.fn.left (entries_at l.history.entries (take l.i l.block))
