use Rattle.std.proofs.Common.{◌≡◌, ◌<◌, length}
use Rattle.asset_name_groups.specs.Trees.{root_in, steps_bound}
use Rattle.asset_name_groups.proofs.trees.tree_of.Given as goal

-- the walk stays in the tree
abbrev pub invariant-walk : goal.invariant-walk
invariant-walk l = record {
  within : l.k < length l.fn.links;
  root : root_in l.fn.links l.k ≡ root_in l.fn.links l.fn.node;
}

abbrev pub decreases-walk : goal.decreases-walk
decreases-walk l = steps_bound l.fn.links l.k
