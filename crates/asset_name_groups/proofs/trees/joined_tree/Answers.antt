use Rattle.std.proofs.Common.{rules}
use Rattle.asset_name_groups.specs.Roots.{joined_tree, raised}
use Rattle.asset_name_groups.proofs.trees.joined_tree.Goals as goal

pub returns-clause-tree : goal.returns-clause-tree
unfolding joined_tree raised
returns-clause-tree c = search rules
