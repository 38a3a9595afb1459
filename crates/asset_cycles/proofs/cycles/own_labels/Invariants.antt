use Rattle.std.proofs.Common.{◌≡◌, None, get_or}
use Rattle.std.specs.List.{filter, range_with_len}
use Rattle.asset_cycles.specs.Members.{is_label}
use Rattle.asset_cycles.proofs.cycles.own_labels.Given as goal

-- those of the first nodes that are their own labels
abbrev pub invariant-nodes : goal.invariant-nodes
invariant-nodes l = l.own.items ≡ filter (λ k. is_label (get_or l.labels k None) k) (range_with_len 0 l.node)
