-- A tree, as its root says it.
use Rattle.std.specs.Prelude.{◌≡◌, ℕ, ◌+◌, ◌<◌, min, Bool, cond, nat_lt, ◌==◌, ◌&&◌, ◌||◌, List, length}
use Rattle.asset_name_groups.specs.declared.links.Link.{Link}
use Rattle.asset_name_groups.specs.declared.links.Link.TheVariants.{Root}
use Rattle.asset_name_groups.specs.declared.trees.Tree.{Tree}
use Rattle.asset_name_groups.specs.Trees.{link_at}

-- the link of a tree's root
unfoldable pub root_link : Tree → Link
root_link tree = Root tree.rank tree.is_flagged tree.label

-- the root of a tree is there, and says this of it
pub record IsTree (links : List Link) (tree : Tree) : Type 0 where
  pub within : tree.root < length links
  pub link : link_at links tree.root ≡ root_link tree

-- whether the root of a tree stays above that of another: its rank is greater, or the ranks are the same and it is the earlier node
unfoldable pub stays_above : Tree → Tree → Bool
stays_above tree other = nat_lt other.rank tree.rank || other.rank == tree.rank && nat_lt tree.root other.root

-- the rank of a root once another one is led to it: greater than before if both were the same, but never above 255
unfoldable pub raised : ℕ → ℕ → ℕ
raised lower upper = cond (lower == upper) (min (upper + 1) 255) upper

-- the tree that two become: the upper root stays
unfoldable pub joined_tree : Tree → Tree → Tree
joined_tree lower upper = record { root = upper.root; rank = raised lower.rank upper.rank; is_flagged = lower.is_flagged || upper.is_flagged; label = min lower.label upper.label }
