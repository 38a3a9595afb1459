use Rattle.std.proofs.Common.{◌≡◌, ◌++◌, flat_map, string_bytes, take}
use Rattle.asset_waits.specs.Texts.{label_line}
use Rattle.asset_waits.proofs.deadlocks.push_cycles.Given as goal

-- the lines of the cycles so far are appended
abbrev pub invariant-labels : goal.invariant-labels
invariant-labels l = string_bytes l.text ≡ string_bytes l.fn.text ++ flat_map (label_line l.names l.cycles) (take l.label-index l.label-items)
