use Rattle.std.proofs.Common.{sym, ◌∙◌}
use Rattle.asset_name_groups.specs.Roots.{root_link}
use Rattle.asset_name_groups.proofs.TreeLemmas.{root_above, root_own}
use Rattle.asset_name_groups.proofs.trees.tree_of.Goals as goal

pub walk-smaller : goal.walk-smaller
walk-smaller c = (c.requires.forest.upward c.walk.k c.in-Below.rank c.in-Below.above c.in-Below.is).1

pub walk-preserved : goal.walk-preserved
walk-preserved c = record {
  within = (c.requires.forest.upward c.walk.k c.in-Below.rank c.in-Below.above c.in-Below.is).0;
  root = sym (root_above c.args.links.now c.requires.forest.upward c.walk.k c.in-Below.rank c.in-Below.above c.in-Below.is) ∙ c.walk.invariant.root;
}

pub returns-in-Root-clause-root : goal.returns-in-Root-clause-root
returns-in-Root-clause-root c = sym (root_own c.args.links.now c.walk.k c.in-Root.rank c.in-Root.label c.in-Root.is_flagged c.in-Root.is) ∙ c.walk.invariant.root

pub returns-in-Root-clause-tree : goal.returns-in-Root-clause-tree
unfolding root_link
returns-in-Root-clause-tree c = record { within = c.walk.invariant.within; link = c.in-Root.is }
