-- What callers use of the parts of keys.
use Rattle.std.proofs.Common.{◌≡◌, ℕ, ◌+◌, ◌++◌, List, [], ◌∷◌, length, get_or, Option, None, refl, ap, ◌∙◌, zero, suc}
use Rattle.std.proofs.lemmas.List.{length-append}
use Rattle.asset_lists.specs.declared.part.Part.{Part}
use Rattle.asset_lists.specs.Parted.{Parted, part_of, one_key_more, one_list_more, IsChangedAt}

-- a key changes twice
pub changed_twice : (key : ℕ) (part last : Option Part) (old now new : Parted) → IsChangedAt key part old now → IsChangedAt key last now new → IsChangedAt key last old new
changed_twice key part last old now new first second = record {
  here = second.here;
  others = λ k apart. second.others k apart ∙ first.others k apart;
  same_lists = second.same_lists ∙ first.same_lists;
  same_keys = second.same_keys ∙ first.same_keys;
}

-- nothing changes
pub changed_not : (key : ℕ) (part : Option Part) (table : Parted) → part_of table key ≡ part → IsChangedAt key part table table
changed_not key part table is = record { here = is; others = λ k apart. refl; same_lists = refl; same_keys = refl }

-- ---- one more key, or one more list
read_more : (parts : List (Option Part)) (k : ℕ) → get_or (parts ++ None ∷ []) k None ≡ get_or parts k None
read_more parts k = search_it parts k where
  search_it : (parts : List (Option Part)) (k : ℕ) → get_or (parts ++ None ∷ []) k None ≡ get_or parts k None
  search_it [] zero = refl
  search_it [] (suc k) = refl
  search_it (p ∷ parts) zero = refl
  search_it (p ∷ parts) (suc k) = search_it parts k

pub key_more-part : (table : Parted) (k : ℕ) → part_of (one_key_more table) k ≡ part_of table k
unfolding part_of one_key_more
key_more-part table k = read_more table.parts k

pub key_more-keys : (table : Parted) → length (one_key_more table).parts ≡ length table.parts + 1
unfolding one_key_more
key_more-keys table = length-append table.parts (None ∷ [])

pub key_more-lists : (table : Parted) → (one_key_more table).lists ≡ table.lists
unfolding one_key_more
key_more-lists table = refl

pub list_more-lists : (table : Parted) → (one_list_more table).lists ≡ table.lists + 1
unfolding one_list_more
list_more-lists table = refl

pub list_more-parts : (table : Parted) → (one_list_more table).parts ≡ table.parts
unfolding one_list_more
list_more-parts table = refl

-- a table without keys
pub no_part_of : (table : Parted) → table.parts ≡ [] → (k : ℕ) → part_of table k ≡ None
unfolding part_of
no_part_of table none k = ap (λ (parts : List (Option Part)). get_or parts k None) none

-- the same parts
pub part_same : (old new : Parted) → new.parts ≡ old.parts → (k : ℕ) → part_of new k ≡ part_of old k
unfolding part_of
part_same old new same k = ap (λ (parts : List (Option Part)). get_or parts k None) same
