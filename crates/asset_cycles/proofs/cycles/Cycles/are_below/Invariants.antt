use Rattle.std.proofs.Common.{take}
use Rattle.asset_cycles.specs.Cyclic.{AreBelow}
use Rattle.asset_cycles.proofs.cycles.Cycles.are_below.Given as goal

-- the first arrows are below the count
abbrev pub invariant-arrows : goal.invariant-arrows
invariant-arrows l = AreBelow (take l.arrow-index l.arrows) l.count
