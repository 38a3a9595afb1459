-- A search along arrows between nodes.
use Rattle.std.specs.Prelude.{◌≡◌, ℕ, ◌+◌, ◌<◌, ◌++◌, Bool, true, cond, List, [], ◌∷◌, Option, Some, None}
use Rattle.slab.specs.Slab.{Slab}
use Rattle.asset_names.specs.Arrows.{Arrow, lists, has_arrow}
use Rattle.asset_chains.specs.Chained.{Chained, home_of}

-- each arrow leads to a node below the size
abbrev pub AreWithin : List Arrow → ℕ → Type 0
AreWithin arrows size = (u t : ℕ) → has_arrow arrows u t ≡ true → t < size

-- the arrow between two homes, if both are there
abbrev pub arrow_between : Option ℕ → Option ℕ → List Arrow
arrow_between (Some u) (Some t) = (u, t) ∷ []
arrow_between (Some u) None = []
arrow_between None other = []

module _ {D : Type 0} (test : D → Bool) where
  -- the arrows of the items that pass the test, where k is the key of the first slot
  abbrev pub arrows_from : Chained → Chained → ℕ → List (Option D) → List Arrow
  arrows_from along across k [] = []
  arrows_from along across k (None ∷ slots) = arrows_from along across (k + 1) slots
  arrows_from along across k (Some d ∷ slots) = cond (test d) (arrow_between (home_of along k) (home_of across k)) [] ++ arrows_from along across (k + 1) slots

  -- an arrow for each item that passes the test, from its home among the chains along which the search goes to its home
  -- among those of the other sides
  unfoldable pub arrows_along : Slab D → Chained → Chained → List Arrow
  arrows_along items along across = arrows_from along across 0 items.slots

  -- where an item leads to, if it is there and passes the test
  abbrev pub leads_to : Option D → Option ℕ → Option ℕ
  leads_to None end = None
  leads_to (Some d) end = cond (test d) end None

-- how a node is expanded: what was met stays first, and then come nodes to which an arrow leads from it; afterwards
-- each node to which an arrow leads is met
pub record Expands (arrows : List Arrow) (node : ℕ) (before after : List ℕ) : Type 0 where
  pub more : List ℕ
  pub kept : after ≡ before ++ more
  pub is_linked : (k : ℕ) → lists more k ≡ true → has_arrow arrows node k ≡ true
  pub all : (t : ℕ) → has_arrow arrows node t ≡ true → lists after t ≡ true
