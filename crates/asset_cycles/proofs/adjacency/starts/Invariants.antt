use Rattle.std.proofs.Common.{◌≡◌, map, take}
use Rattle.asset_names.specs.Arrows.{Arrow}
use Rattle.asset_cycles.proofs.adjacency.starts.Given as goal

-- the first arrows are read
abbrev pub invariant-arrows : goal.invariant-arrows
invariant-arrows l = l.starts.items ≡ map (λ (arrow : Arrow). arrow.0) (take l.arrow-index l.arrows)
