use Rattle.std.proofs.Common.{◌≡◌, ◌++◌, map, take}
use Rattle.asset_waits.specs.Deadlocks.{arrow_to}
use Rattle.asset_waits.proofs.arrows.push_arrows_to.Given as goal

-- the arrows to those so far are appended
abbrev pub invariant-waited : goal.invariant-waited
invariant-waited l = l.arrows.items ≡ l.fn.arrows.items ++ map (arrow_to l.names.keys l.from) (take l.u-index l.waited)
