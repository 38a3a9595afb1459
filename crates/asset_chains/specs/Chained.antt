-- Keys in chains, as callers see them.
use Rattle.std.specs.Prelude.{◌≡◌, ℕ, ◌==◌, nat_eq, true, if◌then◌else◌, List, [], ◌∷◌, ◌++◌, Option, None, Some, Bool, unwrap_or, slice_index_or, slice_set}
use Rattle.std.specs.List.{list_any, IsDistinct}

-- keys and chains are numbers from 0 on; each key is in one chain at most, which is its home
pub record Chained : Type 0 where
  -- the keys of each chain, in order
  pub chains : List (List ℕ)
  -- the chain of each key, if it is in one
  pub homes : List (Option ℕ)

-- the keys of a chain, and none past the last chain
unfoldable pub chain_of : Chained → ℕ → List ℕ
chain_of table c = slice_index_or table.chains c []

-- the chain that a key is in; None if it is in none, or past the last key
unfoldable pub home_of : Chained → ℕ → Option ℕ
home_of table k = slice_index_or table.homes k None

-- the first of the keys, if there is one
abbrev pub first_of : List ℕ → Option ℕ
first_of [] = None
first_of (x ∷ xs) = Some x

-- the last of the keys, if there is one
abbrev pub last_of : List ℕ → Option ℕ
last_of [] = None
last_of (x ∷ xs) = Some (unwrap_or (last_of xs) x)

-- the keys after the first k, and none if k is not listed
abbrev pub behind : ℕ → List ℕ → List ℕ
behind k [] = []
behind k (x ∷ xs) = if k == x then xs else behind k xs

-- the keys before the first k, and all of them if k is not listed
abbrev pub ahead : ℕ → List ℕ → List ℕ
ahead k [] = []
ahead k (x ∷ xs) = if k == x then [] else x ∷ ahead k xs

-- the keys less k
abbrev pub without : ℕ → List ℕ → List ℕ
without k [] = []
without k (x ∷ xs) = if k == x then without k xs else x ∷ without k xs

-- whether k is among the keys
abbrev pub lists : List ℕ → ℕ → Bool
lists keys k = list_any (nat_eq k) keys

-- k stands at the end of chain c, which is its home
unfoldable pub pushed : ℕ → ℕ → Chained → Chained
pushed c k table = record {
  chains = slice_set table.chains c (chain_of table c ++ k ∷ []);
  homes = slice_set table.homes k (Some c);
}

-- k is out of chain c, and has no home
unfoldable pub unlinked_from : Option ℕ → ℕ → Chained → Chained
unlinked_from None k table = table
unlinked_from (Some c) k table = record {
  chains = slice_set table.chains c (without k (chain_of table c));
  homes = slice_set table.homes k None;
}

-- k is out of its chain, and has no home; if it has none, nothing changes
unfoldable pub unlinked : ℕ → Chained → Chained
unlinked k table = unlinked_from (home_of table k) k table

-- there is one more key, which is in no chain
unfoldable pub one_key_more : Chained → Chained
one_key_more table = record table { homes = table.homes ++ None ∷ [] }

-- there is one more chain, without keys
unfoldable pub one_chain_more : Chained → Chained
one_chain_more table = record table { chains = table.chains ++ [] ∷ [] }

-- each chain lists exactly the keys whose home it is, each of them once
pub record IsConsistent (table : Chained) : Type 0 where
  -- a key that is listed in a chain has it as its home
  pub at_home : (c k : ℕ) → lists (chain_of table c) k ≡ true → home_of table k ≡ Some c
  -- no key stands twice in a chain
  pub once : (c : ℕ) → IsDistinct nat_eq (chain_of table c)
  -- a key is listed in the chain that is its home
  pub listed : (c k : ℕ) → home_of table k ≡ Some c → lists (chain_of table c) k ≡ true
