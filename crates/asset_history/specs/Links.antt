-- Chains of users, linked from the newest to the oldest. A chain is said by 1 and the index of its newest link, or by 0 if it has none.
use Rattle.std.specs.Prelude.{◌≡◌, ℕ, zero, suc, ◌<◌, ◌≤◌, ◌^◌, Bool, true, false, ◌||◌, ◌==◌, List, [], ◌∷◌, ◌++◌, length, slice_index_or}
use Rattle.asset_history.specs.declared.links.Link.{Link}

-- the links of all chains in the order in which they came, and how many there is room for in all
pub record Links : Type 0 where
  pub links : List Link
  pub room : ℕ

-- the link at an index
abbrev pub link_at : List Link → ℕ → Link
link_at links k = slice_index_or links k (record { node = 0; before = 0 })

-- whether one of so many of the newest links of a chain has the node
unfoldable pub has_node : ℕ → List Link → ℕ → ℕ → Bool
has_node zero links chain node = false
has_node (suc most) links zero node = false
has_node (suc most) links (suc k) node = (link_at links k).node == node || has_node most links (link_at links k).before node

-- the node is in the chain
abbrev pub IsIn : List Link → ℕ → ℕ → Type 0
IsIn links chain node = (most : ℕ) × (has_node most links chain node ≡ true)

-- no links
unfoldable pub no_links : ℕ → Links
no_links room = record { links = []; room = room }

-- one link more, which makes a chain one node longer
unfoldable pub one_link_more : Links → ℕ → ℕ → Links
one_link_more all node before = record { links = all.links ++ record { node = node; before = before } ∷ []; room = all.room }

-- maybe some links have come, and each chain that was there has the nodes that it had
pub record HaveMore (before after : List Link) : Type 0 where
  pub more : length before ≤ length after
  pub same : (most chain node : ℕ) → chain ≤ length before → has_node most after chain node ≡ has_node most before chain node

-- each link leads to an earlier one, and there is memory for the room, whose links are counted in 32 bits
pub record AreValid (links : List Link) (room memory : ℕ) : Type 0 where
  pub earlier : (k : ℕ) → k < length links → (link_at links k).before ≤ k
  pub within : length links ≤ room
  pub reserved : room ≤ memory
  pub small : room < 2 ^ 32
