-- How chains are stored: of each key its home and its neighbours, and of each chain its ends and its count. A stored
-- number is the number of a key or a chain and 1, or 0 for none.
use Rattle.std.specs.Prelude.{◌≡◌, ℕ, ◌==◌, ◌<◌, ◌^◌, suc, zero, if◌then◌else◌, List, [], ◌∷◌, Option, None, Some, length, map, slice_index_or}
use Rattle.asset_chains.specs.declared.links.Link.{Link}
use Rattle.asset_chains.specs.declared.heads.Head.{Head}
use Rattle.asset_chains.specs.Chained.{Chained, chain_of, home_of, IsConsistent}

-- what a stored number stands for
abbrev pub decoded : ℕ → Option ℕ
decoded zero = None
decoded (suc n) = Some n

-- the link of a key in no chain
abbrev pub no_link : Link
no_link = record { home = 0; before = 0; after = 0 }

-- the head of a chain without keys
abbrev pub no_head : Head
no_head = record { first = 0; last = 0; count = 0 }

-- the link of a key, past the last of which there is none
abbrev pub link_at : List Link → ℕ → Link
link_at links k = slice_index_or links k no_link

-- the head of a chain, past the last of which there is none
abbrev pub head_at : List Head → ℕ → Head
head_at heads c = slice_index_or heads c no_head

-- the links with `after` behind the key that is stored as `at`, if there is one
abbrev pub with_after : ℕ → ℕ → (ℕ → Link) → ℕ → Link
with_after at after link k = if suc k == at then record (link k) { after = after } else link k

-- the links with `before` ahead of the key that is stored as `at`, if there is one
abbrev pub with_before : ℕ → ℕ → (ℕ → Link) → ℕ → Link
with_before at before link k = if suc k == at then record (link k) { before = before } else link k

-- the first of the keys as it is stored, or another number if there are no keys
abbrev pub first_code : List ℕ → ℕ → ℕ
first_code [] other = other
first_code (x ∷ xs) other = suc x

-- the last of the keys as it is stored, or another number if there are no keys
abbrev pub last_code : ℕ → List ℕ → ℕ
last_code other [] = other
last_code other (x ∷ xs) = last_code (suc x) xs

-- the head of a chain of these keys
abbrev pub head_of : List ℕ → Head
head_of keys = record { first = first_code keys 0; last = last_code 0 keys; count = length keys }

-- the keys are linked in order within chain c, from `before` the first of them to `after` the last
abbrev pub IsRow : (ℕ → Link) → ℕ → ℕ → List ℕ → ℕ → Type 0
IsRow link c before [] after = Unit {0}
IsRow link c before (x ∷ xs) after = (link x ≡ record { home = suc c; before = before; after = first_code xs after }) × IsRow link c (suc x) xs after

-- the keys from a stored number on, at most `count` of them
abbrev pub walk : (ℕ → Link) → ℕ → ℕ → List ℕ
walk link next zero = []
walk link zero (suc count) = []
walk link (suc k) (suc count) = k ∷ walk link (link k).after count

-- what is seen of links and heads
abbrev pub seen : List Link → List Head → Chained
seen links heads = record {
  chains = map (λ head. walk (link_at links) head.first head.count) heads;
  homes = map (λ link. decoded link.home) links;
}

-- the links and heads are those of these chains
pub record Stores (links : List Link) (heads : List Head) (table : Chained) : Type 0 where
  pub sound : IsConsistent table
  -- there are as many keys and chains
  pub keys : length table.homes ≡ length links
  pub chains : length table.chains ≡ length heads
  -- the keys of each chain are linked in order, and its head has its ends and its count
  pub rows : (c : ℕ) → IsRow (link_at links) c 0 (chain_of table c) 0
  pub ends : (c : ℕ) → head_at heads c ≡ head_of (chain_of table c)
  -- a key without a home has an empty link
  pub free : (k : ℕ) → home_of table k ≡ None → link_at links k ≡ no_link

-- the links and heads are those of the chains that are seen, and numbers fit
pub record IsValid (links : List Link) (heads : List Head) : Type 0 where
  pub stored : Stores links heads (seen links heads)
  pub few_keys : length links < 2 ^ 32
  pub few_chains : length heads < 2 ^ 32
