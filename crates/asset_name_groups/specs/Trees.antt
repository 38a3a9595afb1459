-- The trees of groups: each node is linked to one above it in the tree of its group, or is the root.
use Rattle.std.specs.Prelude.{◌≡◌, ℕ, zero, suc, ◌+◌, ◌-◌, ◌*◌, ◌<◌, ◌≤◌, Bool, false, List, length, map, slice_index_or}
use Rattle.std.specs.List.{range_with_len}
use Rattle.asset_name_groups.specs.declared.links.Link.{Link}
use Rattle.asset_name_groups.specs.declared.links.Link.TheVariants.{Below, Root}

-- the link of a node; past the last one that of a root
abbrev pub link_at : List Link → ℕ → Link
link_at links k = slice_index_or links k (Root 0 false 0)

-- the rank of a link
unfoldable pub rank_of : Link → ℕ
rank_of (Below rank above) = rank
rank_of (Root rank is_flagged label) = rank

-- a number that falls with each step upward, so at least the steps to the root: ranks rise, and at one rank nodes fall
unfoldable pub steps_bound : List Link → ℕ → ℕ
steps_bound links k = (255 - rank_of (link_at links k)) * 0x1_0000_0000 + k

-- where the walk from node k ends, if this is its link and `go` says where the walk from each other node ends
unfoldable pub walk_end : (ℕ → ℕ) → ℕ → Link → ℕ
walk_end go k (Below rank above) = go above
walk_end go k (Root rank is_flagged label) = k

-- the node after n steps upward, or the root
unfoldable pub after_steps : List Link → ℕ → ℕ → ℕ
after_steps links zero k = k
after_steps links (suc n) k = walk_end (after_steps links n) k (link_at links k)

-- the root of a node's tree
unfoldable pub root_in : List Link → ℕ → ℕ
root_in links k = after_steps links (suc (steps_bound links k)) k

-- the label in a root's link; 0 for a link below
unfoldable pub label_by : Link → ℕ
label_by (Below rank above) = 0
label_by (Root rank is_flagged label) = label

-- the flag in a root's link; false for a link below
unfoldable pub flag_by : Link → Bool
flag_by (Below rank above) = false
flag_by (Root rank is_flagged label) = is_flagged

-- the label of a node
unfoldable pub label_in : List Link → ℕ → ℕ
label_in links k = label_by (link_at links (root_in links k))

-- whether the group of a node is flagged
unfoldable pub flag_in : List Link → ℕ → Bool
flag_in links k = flag_by (link_at links (root_in links k))

-- the labels of all nodes
unfoldable pub labels_in : List Link → List ℕ
labels_in links = map (label_in links) (range_with_len 0 (length links))

-- the flags of all nodes
unfoldable pub flags_in : List Link → List Bool
flags_in links = map (flag_in links) (range_with_len 0 (length links))

-- each step upward leads to a node, and nearer to the root
abbrev pub IsUpward : List Link → Type 0
IsUpward links = (k rank above : ℕ) → link_at links k ≡ Below rank above → (above < length links) × (steps_bound links above < steps_bound links k)

-- steps lead upward, and the label of each tree is the least node of it
pub record IsForest (links : List Link) : Type 0 where
  pub upward : IsUpward links
  pub own : (k rank label : ℕ) (is_flagged : Bool) → k < length links → link_at links k ≡ Root rank is_flagged label → root_in links label ≡ k
  pub least : (k : ℕ) → k < length links → label_in links k ≤ k
