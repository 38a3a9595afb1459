-- One more key, or one more list.
use Rattle.std.proofs.Common.{◌≡◌, ℕ, ◌+◌, ◌<◌, ◌^◌, List, [], ◌∷◌, ◌++◌, length, map, Option, Some, refl, sym, ap, subst, ◌∙◌, arith, zero, suc}
use Rattle.std.proofs.lemmas.List.{length-append, map-append}
use Rattle.asset_lists.specs.declared.part.Part.{Part}
use Rattle.asset_lists.specs.declared.part.Section.{Section}
use Rattle.asset_lists.specs.declared.rows.Row.{Row}
use Rattle.asset_lists.specs.declared.rows.Place.{Place}
use Rattle.asset_lists.specs.Parted.{IsAt, one_key_more, one_list_more}
use Rattle.asset_lists.specs.Placed.{no_place, row_at, keys_of, section_at, place_at, part_in, seen, IsSplit, IsValid}

-- reads past the end are those of nothing, and so is what is added
place_more : (places : List Place) (k : ℕ) → place_at (places ++ no_place ∷ []) k ≡ place_at places k
place_more [] zero = refl
place_more [] (suc k) = refl
place_more (p ∷ places) zero = refl
place_more (p ∷ places) (suc k) = place_more places k

-- a row without keys
abbrev pub empty_row : ℕ → Row
empty_row capacity = record { keys = record { items = []; capacity = capacity }; front = 0; back = 0 }

keys_more : (rows : List Row) (capacity x : ℕ) → keys_of (rows ++ empty_row capacity ∷ []) x ≡ keys_of rows x
keys_more [] capacity zero = refl
keys_more [] capacity (suc x) = refl
keys_more (r ∷ rows) capacity zero = refl
keys_more (r ∷ rows) capacity (suc x) = keys_more rows capacity x

-- it has no parts
section_more : (rows : List Row) (capacity x position : ℕ) → section_at (row_at (rows ++ empty_row capacity ∷ []) x) position ≡ section_at (row_at rows x) position
section_more [] capacity zero position = refl
section_more [] capacity (suc x) position = refl
section_more (r ∷ rows) capacity zero position = refl
section_more (r ∷ rows) capacity (suc x) position = section_more rows capacity x position

split_more : (rows : List Row) (capacity x : ℕ) → IsSplit (row_at rows x) → IsSplit (row_at (rows ++ empty_row capacity ∷ []) x)
split_more [] capacity zero split = record { middle = omega arith; end = omega arith }
split_more [] capacity (suc x) split = split
split_more (r ∷ rows) capacity zero split = split
split_more (r ∷ rows) capacity (suc x) split = split_more rows capacity x split

pub valid_key_more : (rows : List Row) (places : List Place) → IsValid rows places → length places + 1 < 2 ^ 32 → IsValid rows (places ++ no_place ∷ [])
valid_key_more rows places valid few = record {
  placed = record {
    listed = λ x q k at. place_more places k ∙ valid.placed.listed x q k at;
    placed = λ k x home. subst (λ (l : Place). IsAt (keys_of rows x) l.position k) (sym (place_more places k)) (valid.placed.placed k x (sym (ap (λ (l : Place). l.home) (place_more places k)) ∙ home));
  };
  split = valid.split;
  short = valid.short;
  few_keys = omega (arith, few, length-append places (no_place ∷ []));
  few_lists = valid.few_lists;
}

pub seen_key_more : (rows : List Row) (places : List Place) → seen rows (places ++ no_place ∷ []) ≡ one_key_more (seen rows places)
unfolding one_key_more
seen_key_more rows places = ap (λ (l : List (Option Part)). record { lists = length rows; parts = l }) (map-append (λ (place : Place). part_in (row_at rows) place.home place.position) places (no_place ∷ []))

pub valid_list_more : (rows : List Row) (places : List Place) (capacity : ℕ) → IsValid rows places → length rows + 1 < 2 ^ 32 → IsValid (rows ++ empty_row capacity ∷ []) places
valid_list_more rows places capacity valid few = record {
  placed = record {
    listed = λ x q k at. valid.placed.listed x q k (subst (λ (l : List ℕ). IsAt l q k) (keys_more rows capacity x) at);
    placed = λ k x home. subst (λ (l : List ℕ). IsAt l (place_at places k).position k) (sym (keys_more rows capacity x)) (valid.placed.placed k x home);
  };
  split = λ x. split_more rows capacity x (valid.split x);
  short = λ x. subst (λ (l : List ℕ). length l < 2 ^ 32) (sym (keys_more rows capacity x)) (valid.short x);
  few_keys = valid.few_keys;
  few_lists = omega (arith, few, length-append rows (empty_row capacity ∷ []));
}

same_part : (rows : List Row) (capacity h position : ℕ) → part_in (row_at (rows ++ empty_row capacity ∷ [])) h position ≡ part_in (row_at rows) h position
same_part rows capacity zero position = refl
same_part rows capacity (suc x) position = ap (λ (b : Section). Some (record { list = x; section = b })) (section_more rows capacity x position)

pub seen_list_more : (rows : List Row) (places : List Place) (capacity : ℕ) → seen (rows ++ empty_row capacity ∷ []) places ≡ one_list_more (seen rows places)
unfolding one_list_more
seen_list_more rows places capacity = λ i. record { lists = length-append rows (empty_row capacity ∷ []) i; parts = parts places i } where
  parts : (places : List Place) → map (λ (place : Place). part_in (row_at (rows ++ empty_row capacity ∷ [])) place.home place.position) places ≡ map (λ (place : Place). part_in (row_at rows) place.home place.position) places
  parts [] = refl
  parts (p ∷ places) = λ i. same_part rows capacity p.home p.position i ∷ parts places i
