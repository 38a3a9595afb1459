use Rattle.std.proofs.Common.{take}
use Rattle.asset_names.specs.Arrows.{lists}
use Rattle.asset_cycles.proofs.LabelLemmas.{IsLabelled}
use Rattle.asset_cycles.proofs.labelling.label_met.Given as goal

-- the first nodes that are met ahead have their labels
abbrev pub invariant-ahead : goal.invariant-ahead
invariant-ahead l = IsLabelled (take l.k l.ahead.nodes) (lists l.behind.nodes) l.label l.initial.labels l.labels
