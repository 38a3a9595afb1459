-- How seats are stored: a name for each, and chains of seats. Chain 0 lists the seats that are free, and each chain after
-- it lists those of a bucket.
use Rattle.std.specs.Prelude.{◌≡◌, ℕ, ◌-◌, ◌*◌, ◌/◌, ◌%◌, ◌<◌, ◌≤◌, zero, suc, true, List, [], ◌∷◌, length, Option, Some, None, is_some, unwrap_or, slice_index_or}
use Rattle.asset_names.specs.declared.names.Txn.{Txn}
use Rattle.asset_chains.specs.Chained.{Chained, chain_of, home_of, last_of}
use Rattle.asset_seats.specs.Seated.{Seated}

-- the bucket of a name among `buckets` buckets
unfoldable pub bucket_in : ℕ → ℕ → ℕ
bucket_in t buckets = ((t * 0x9E37_79B9_7F4A_7C15) % 0x1_0000_0000_0000_0000 / 0x1_0000_0000) % buckets

-- what is stored as the name of a seat that was never given
unfoldable pub no_name : Txn
no_name = record { 0 = 0 }

-- the name that is stored for a seat
unfoldable pub name_in : List Txn → ℕ → Txn
name_in names c = slice_index_or names c no_name

-- who has a seat that is in this chain, where this name is stored for it
abbrev pub taken : Option ℕ → Txn → Option Txn
taken None name = None
taken (Some zero) name = None
taken (Some (suc bucket)) name = Some name

-- who has each seat
abbrev pub slots_of : List (Option ℕ) → List Txn → List (Option Txn)
slots_of [] names = []
slots_of (home ∷ homes) [] = taken home no_name ∷ slots_of homes []
slots_of (home ∷ homes) (name ∷ names) = taken home name ∷ slots_of homes names

-- the seats: the last one that is free is given next
unfoldable pub seats_of : List Txn → Chained → Seated
seats_of names table = record {
  slots = slots_of table.homes names;
  vacant = unwrap_or (last_of (chain_of table 0)) (length table.homes);
  has_room = is_some (last_of (chain_of table 0));
}

-- the chain of a seat once its bucket is this one: a seat that is free stays free
abbrev pub rebucketed : ℕ → Option ℕ → Option ℕ
rebucketed bucket None = None
rebucketed bucket (Some zero) = Some zero
rebucketed bucket (Some (suc other)) = Some (suc bucket)

-- each seat is free or in the bucket of its name, and no two have the same name
pub record AreBucketed (names : List Txn) (table : Chained) (buckets : ℕ) : Type 0 where
  -- each seat has a place for a name
  pub named : length table.homes ≤ length names
  -- each seat is in a chain
  pub homed : (k : ℕ) → k < length table.homes → is_some (home_of table k) ≡ true
  -- a seat that somebody has is in the bucket of the name
  pub bucketed : (k b : ℕ) → home_of table k ≡ Some (suc b) → b ≡ bucket_in (name_in names k).0 buckets
  -- a name has one seat
  pub one : (j k a b : ℕ) → home_of table j ≡ Some (suc a) → home_of table k ≡ Some (suc b) → name_in names j ≡ name_in names k → j ≡ k
  -- there is a bucket if there is a seat, and each bucket has a chain
  pub ready : 0 < length table.homes → 0 < buckets
  pub within : buckets ≤ length table.chains - 1
