-- Keys in lists, as callers see them.
use Rattle.std.specs.Prelude.{◌≡◌, ℕ, ◌<◌, ◌+◌, Bool, true, false, List, [], ◌∷◌, ◌++◌, length, Option, None, Some, slice_index, slice_index_or}
use Rattle.asset_lists.specs.declared.part.Part.{Part}
use Rattle.asset_lists.specs.declared.part.Section.{Section}
use Rattle.asset_lists.specs.declared.part.Section.TheVariants.{Front, Middle, Back}

-- keys and lists are numbers from 0 on; each key is in one part at most
pub record Parted : Type 0 where
  -- how many lists there are
  pub lists : ℕ
  -- the part of each key, if it is in one
  pub parts : List (Option Part)

-- the part that a key is in; None if it is in none, or past the last key
unfoldable pub part_of : Parted → ℕ → Option Part
part_of table k = slice_index_or table.parts k None

-- the key stands at the position
pub record IsAt (keys : List ℕ) (q k : ℕ) : Type 0 where
  pub within : q < length keys
  pub reads : slice_index keys q ≡ k

-- these are the keys of the part, each once
pub record AreKeys (table : Parted) (part : Part) (keys : List ℕ) : Type 0 where
  pub there : (q k : ℕ) → IsAt keys q k → part_of table k ≡ Some part
  pub all : (k : ℕ) → part_of table k ≡ Some part → (q : ℕ) × IsAt keys q k
  pub once : (p q k : ℕ) → IsAt keys p k → IsAt keys q k → p ≡ q

-- whether the second section is the first one given, or stands before it: the front comes first, and the back last
unfoldable pub is_up_to : Section → Section → Bool
is_up_to Front Front = true
is_up_to Front section = false
is_up_to Middle Back = false
is_up_to Middle section = true
is_up_to Back section = true

-- this section of the list that the part is of
abbrev pub beside : Part → Section → Part
beside part section = record { list = part.list; section = section }

-- these are the keys of the part and of those before it in its list, each once
pub record AreKeysUpTo (table : Parted) (last : Part) (keys : List ℕ) : Type 0 where
  pub there : (q k : ℕ) → IsAt keys q k → (w : Section) × (part_of table k ≡ Some (beside last w)) × (is_up_to last.section w ≡ true)
  pub all : (k : ℕ) (w : Section) → part_of table k ≡ Some (beside last w) → is_up_to last.section w ≡ true → (q : ℕ) × IsAt keys q k
  pub once : (p q k : ℕ) → IsAt keys p k → IsAt keys q k → p ≡ q

-- the front part of the list that a key is in
unfoldable pub advanced : Option Part → Option Part
advanced None = None
advanced (Some part) = Some (record part { section = Front })

-- the key is in this part, or in none, and nothing else changes
pub record IsChangedAt (key : ℕ) (part : Option Part) (old new : Parted) : Type 0 where
  pub here : part_of new key ≡ part
  pub others : (k : ℕ) → (k ≡ key → ⊥) → part_of new k ≡ part_of old k
  pub same_lists : new.lists ≡ old.lists
  pub same_keys : length new.parts ≡ length old.parts

-- there is one more key, which is in no list
unfoldable pub one_key_more : Parted → Parted
one_key_more table = record table { parts = table.parts ++ None ∷ [] }

-- there is one more list, without keys
unfoldable pub one_list_more : Parted → Parted
one_list_more table = record table { lists = table.lists + 1 }
