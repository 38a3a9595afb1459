use Rattle.std.proofs.Common.{◌≡◌, take}
use Rattle.asset_serial.specs.Following.{entries_in, followed_by}
use Rattle.asset_serial.proofs.copying.copy_blocks.Given as goal

-- the entries of the first blocks are copied
abbrev pub invariant-numbers : goal.invariant-numbers
invariant-numbers l = l.left ≡ followed_by l.fn.left (entries_in l.history.entries (take l.i l.blocks))
