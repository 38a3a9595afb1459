use Rattle.std.proofs.Common.{◌≡◌, not, take}
use Rattle.asset_names.specs.Arrows.{lists, among}
use Rattle.asset_cycles.proofs.trimming.left.Given as goal

-- those of the first arrows that are left
abbrev pub invariant-arrows : goal.invariant-arrows
invariant-arrows l = l.left.items ≡ among (λ n. not (lists l.taken.nodes n)) (take l.arrow-index l.arrows)
