use Rattle.std.proofs.Common.{◌≡◌, take}
use Rattle.asset_cycles.specs.Cyclic.{turned}
use Rattle.asset_cycles.proofs.graph.turned.Given as goal

-- the first arrows are turned round
abbrev pub invariant-arrows : goal.invariant-arrows
invariant-arrows l = l.back.items ≡ turned (take l.arrow-index l.arrows)
