use Rattle.std.proofs.Common.{◌≡◌, length, map, take}
use Rattle.std.specs.Prelude.{unwrap_or}
use Rattle.asset_cycles.proofs.cycles.label_numbers.Given as goal

-- the numbers of the first nodes
abbrev pub invariant-nodes : goal.invariant-nodes
invariant-nodes l = l.numbers.items ≡ map (λ label. unwrap_or label (length l.labels)) (take l.label-index l.labels)
