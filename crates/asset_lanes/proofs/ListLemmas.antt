-- What one more item adds to a list.
use Rattle.std.proofs.Common.{◌≡◌, ℕ, ◌+◌, ◌<◌, List, ◌++◌, get_or, drop, length, take, reverse, refl, Some}
use Rattle.std.specs.Prelude.{slice_get}
use Rattle.std.proofs.lemmas.List.{drop_more}
use Rattle.std.proofs.lemmas.Option.{get_or_from_slice_get}
use Rattle.asset_names.specs.Steps.{Entry}
use Rattle.asset_entries.proofs.EntryLemmas.{next_entry}
use Rattle.asset_deletion.specs.Grouping.{Grouping}
use Rattle.asset_sources.specs.Sourced.{source_at}
use Rattle.asset_sources.proofs.WalkLemmas.{older_length}
use Rattle.asset_names.specs.Arrows.{with_name}
use Rattle.asset_lanes.specs.Uses.{with_names}
use Rattle.asset_lanes.specs.Marks.{mark_of, mark_list, marks}
use Rattle.asset_lanes.specs.Arrows.{arrow_of, arrow_list, arrows_among}

-- the marks with that of the next entry
pub marks_more : (groups : Grouping) (rows : List ℕ) (all : List Entry) (i : ℕ) (entry : Entry) → slice_get (reverse all) i ≡ Some entry
    → marks groups rows (reverse (take (i + 1) (reverse all))) ≡ marks groups rows (reverse (take i (reverse all))) ++ mark_list (mark_of groups rows i entry.0 entry.1)
unfolding marks
marks_more groups rows all i entry at = rw (next_entry (reverse all) i entry at, older_length all i entry at) refl

-- the arrows with that of the next entry
pub arrows_more : (groups : Grouping) (rows : List ℕ) (all : List Entry) (i : ℕ) (entry : Entry) → slice_get (reverse all) i ≡ Some entry
    → arrows_among groups rows all (reverse (take (i + 1) (reverse all)))
    ≡ arrows_among groups rows all (reverse (take i (reverse all))) ++ arrow_list (arrow_of groups rows all i entry.0 entry.1 (source_at all i))
unfolding arrows_among
arrows_more groups rows all i entry at = rw (next_entry (reverse all) i entry at, older_length all i entry at) refl

-- what stands at an index
pub source_there : {A : Type 0} (items : List A) (i : ℕ) (d : A) (item : A) → slice_get items i ≡ Some item → get_or items i d ≡ item
source_there items i d item at = get_or_from_slice_get items i item d at

-- the names with the next one
pub names_next : (names rows : List ℕ) (i : ℕ) → i < length rows → with_names names (drop i rows) ≡ with_names (with_name names (get_or rows i 0)) (drop (i + 1) rows)
unfolding with_names
names_next names rows i below = rw (drop_more rows i 0 below) refl
