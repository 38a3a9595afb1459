-- Items in rows and columns, as callers see them.
use Rattle.std.specs.Prelude.{◌≡◌, ◌≢◌, ℕ, ◌&&◌, ◌+◌, ◌≤◌, Bool, not, cond, filter, nat_lt, List, [], ◌∷◌, ◌++◌, length, Option, Some, None, is_some, refl}
use Rattle.std.specs.Coded.{Coded, code_by, coded×, coded_ℕ, coded_list, coded_option}
use Rattle.slab.specs.Slab.{Slab, get, slab_len, slab_code}
use Rattle.asset_chains.specs.Chained.{Chained, chain_of, home_of, without, lists, IsConsistent}
use Rattle.asset_chains.specs.declared.side.Side.{Side}
use Rattle.asset_chains.specs.declared.side.Side.TheVariants.{Row, Column}

-- the items, by key; and the keys in rows, and in columns
pub record Crossed (T : Type 0) : Type 0 where
  pub items : Slab T
  pub rows : Chained
  pub columns : Chained

-- chains are stored as the pair of their fields
abbrev pub chained_code : Coded Chained
chained_code =
    code_by
    (List (List ℕ) × List (Option ℕ))
    (coded× (coded_list (coded_list coded_ℕ)) (coded_list (coded_option coded_ℕ)))
    (λ c. (c.chains, c.homes))
    (λ p. record { chains = p.0; homes = p.1 })
    (λ _. refl)

-- items in rows and columns are stored as the tuple of their fields
abbrev pub crossed_code : {T : Type 0} → Coded T → Coded (Crossed T)
crossed_code {T} code =
    code_by
    (Slab T × (Chained × Chained))
    (coded× (slab_code code) (coded× chained_code chained_code))
    (λ c. (c.items, (c.rows, c.columns)))
    (λ p. record { items = p.0; rows = p.1.0; columns = p.1.1 })
    (λ _. refl)

-- the side that is not this one
abbrev pub other_side : Side → Side
other_side Row = Column
other_side Column = Row

module _ {T : Type 0} where
  -- the rows, or the columns
  abbrev pub lines : Side → Crossed T → Chained
  lines Row table = table.rows
  lines Column table = table.columns

  -- whether one more item finds a key without memory
  unfoldable pub has_room : Crossed T → Bool
  has_room table = nat_lt (slab_len table.items) table.items.capacity && nat_lt table.items.vacant_key 0xFFFF_FFFF

-- a key is at the end of chain c now, and nothing else changed
pub record Joins (c k : ℕ) (old new : Chained) : Type 0 where
  pub chain : chain_of new c ≡ chain_of old c ++ k ∷ []
  pub chains : (d : ℕ) → d ≢ c → chain_of new d ≡ chain_of old d
  pub home : home_of new k ≡ Some c
  pub homes : (j : ℕ) → j ≢ k → home_of new j ≡ home_of old j
  pub many : length new.chains ≡ length old.chains

-- a key is in no chain now, and nothing else changed
pub record Leaves (k : ℕ) (old new : Chained) : Type 0 where
  pub chains : (d : ℕ) → chain_of new d ≡ without k (chain_of old d)
  pub home : home_of new k ≡ None
  pub homes : (j : ℕ) → j ≢ k → home_of new j ≡ home_of old j
  pub many : length new.chains ≡ length old.chains

-- whether a key is not among these
unfoldable pub is_left : List ℕ → ℕ → Bool
is_left keys k = not (lists keys k)

-- the items at these keys are gone, and nothing else changed
pub record Loses {T : Type 0} (keys : List ℕ) (old new : Crossed T) : Type 0 where
  pub items : (k : ℕ) → get new.items k ≡ cond (lists keys k) None (get old.items k)
  pub chains : (side : Side) (c : ℕ) → chain_of (lines side new) c ≡ filter (is_left keys) (chain_of (lines side old) c)
  pub homes : (side : Side) (k : ℕ) → home_of (lines side new) k ≡ cond (lists keys k) None (home_of (lines side old) k)
  pub many : (side : Side) → length (lines side new).chains ≡ length (lines side old).chains
  pub len : slab_len new.items + length keys ≡ slab_len old.items

-- there may be more rows or columns, and the items with their homes and their order are as before; of room it says nothing
pub record IsGrown {T : Type 0} (old new : Crossed T) : Type 0 where
  pub items : new.items.slots ≡ old.items.slots
  pub chains : (side : Side) (c : ℕ) → chain_of (lines side new) c ≡ chain_of (lines side old) c
  pub homes : (side : Side) (k : ℕ) → home_of (lines side new) k ≡ home_of (lines side old) k
  pub many : (side : Side) → length (lines side old).chains ≤ length (lines side new).chains

-- each row and each column lists exactly the items whose home it is, each once; and each item has both homes
pub record IsCrossed {T : Type 0} (table : Crossed T) : Type 0 where
  pub sound : (side : Side) → IsConsistent (lines side table)
  pub placed : (side : Side) (k : ℕ) → is_some (home_of (lines side table) k) ≡ is_some (get table.items k)
