-- The objects by their indexes, and what callers see of them.
use Rattle.std.proofs.Common.{◌≡◌, ℕ, ◌+◌, ◌<◌, ◌≤◌, suc, zero, Bool, true, false, cond, not, eqb, ◌||◌, List, [], ◌∷◌, ◌++◌, length, map, find, drop, get_or, set, w64, refl, sym, ap, ◌∙◌, arith, Option, Some, None}
use Rattle.std.specs.Prelude.{ℤ, pos, slice_set, is_some}
use Rattle.std.specs.Option.{option_map}
use Rattle.std.specs.List.{list_any, count_by}
use Rattle.std.specs.Bool.{OnTrue}
use Rattle.std.proofs.lemmas.Bool.{eqb-true, eqb-false, not-true}
use Rattle.std.proofs.lemmas.List.{get_or-set_same, get_or-set_other, get_or_past, length-append, map-append}
use Rattle.std.proofs.lemmas.List.Sums.{sum_by-cons, sum_by-drop_more}
use Rattle.std.proofs.Math.ListN.{drop_of_length-le}
use Rattle.std.proofs.lemmas.Int.{int_wrap_fits}
use Rattle.asset_names.specs.declared.names.Ob.{Ob}
use Rattle.asset_names.specs.Arrows.{lists}
use Rattle.asset_names.specs.Sets.{numbers, HasNoDouble}
use Rattle.asset_names.specs.Steps.{Opening, objects_of}
use Rattle.asset_names.specs.Operations.{opening_at}
use Rattle.asset_names.proofs.Common.{eqb-flip}
use Rattle.asset_names.proofs.DoubleLemmas.{no_double_push, lists_numbers}
use Rattle.asset_records.specs.declared.records.Record.{Record}
use Rattle.asset_records.specs.Listed.{on, ChangesOn, is_owned as owned}
use Rattle.asset_records.proofs.ListedLemmas.{read_more}
use Rattle.asset_objects.specs.Cells.{Cell, ObjectTable, named_in, number_of, cells, fresh, opened, shown, value_in, has_object, is_owned, change_at, change_each, updates_by}
use Rattle.asset_records.specs.Listed.{records_by, lists_in}
use Rattle.asset_objects.specs.Placed.{word, base_of, grown, recorded_cell, value_at, cell_at, rows_from, object_table, objects_in, ObjectParts, IsOpened}
use Rattle.asset_names.specs.Numbered.{number_in}
use Rattle.asset_names.proofs.NumberLemmas.{number_same}
use Rattle.asset_objects.proofs.UpdateLemmas.{updates_in}
use Rattle.asset_objects.proofs.CellLemmas.{owned_by, updates_count, shown_in_place}

-- ---- a value in place
pub value_set : (values : List ℤ) (i : ℕ) (value : ℤ) (new : ℤ → ℤ) → value ≡ new (value_at values i) → i < length values
    → (j : ℕ) → value_at (slice_set values i value) j ≡ cond (eqb i j) (new (value_at values j)) (value_at values j)
unfolding value_at
value_set values i value new is within j = go (eqb i j) refl where
  go : (b : Bool) → eqb i j ≡ b → get_or (set values i value) j (pos 0) ≡ cond b (new (get_or values j (pos 0))) (get_or values j (pos 0))
  go true e =
      let here : i ≡ j = eqb-true i j e in
      ap (λ (k : ℕ). get_or (set values i value) k (pos 0)) (sym here) ∙ get_or-set_same values i value (pos 0) within ∙ is ∙ ap (λ (k : ℕ). new (get_or values k (pos 0))) here
  go false e = get_or-set_other values i j value (pos 0) (λ same. eqb-false i j e (sym same))

-- ---- an object by its index
-- the rows show each object by its index
cells_from : (i : ℕ) (objects : List Ob) (values : List ℤ) (lists : List (List Record)) (x : ℕ)
    → option_map (λ (row : ℕ × Cell). row.1) (find (λ (row : ℕ × Cell). eqb row.0 x) (rows_from i objects values lists)) ≡ option_map (λ (j : ℕ). cell_at values lists (i + j)) (number_in objects x)
unfolding rows_from number_in
cells_from i [] values lists x = refl
cells_from i (y ∷ ys) values lists x = go (eqb y.0 x) (number_in ys x) (cells_from (i + 1) ys values lists x) where
  go : (b : Bool) (o : Option ℕ)
      → option_map (λ (row : ℕ × Cell). row.1) (find (λ (row : ℕ × Cell). eqb row.0 x) (rows_from (i + 1) ys values lists)) ≡ option_map (λ (j : ℕ). cell_at values lists (i + 1 + j)) o
      → option_map (λ (row : ℕ × Cell). row.1) (cond b (Some (y.0, cell_at values lists i)) (find (λ (row : ℕ × Cell). eqb row.0 x) (rows_from (i + 1) ys values lists)))
      ≡ option_map (λ (j : ℕ). cell_at values lists (i + j)) (cond b (Some 0) (option_map suc o))
  go true o ih = ap (λ (n : ℕ). Some (cell_at values lists n)) (omega arith)
  go false None ih = ih
  go false (Some j) ih = ih ∙ ap (λ (n : ℕ). Some (cell_at values lists n)) (omega arith)

pub cells_placed : (objects : List Ob) (values : List ℤ) (lists : List (List Record)) (reserved : Bool) (visits x : ℕ)
    → cells (object_table objects values lists reserved visits) x ≡ option_map (cell_at values lists) (number_in objects x)
unfolding cells object_table
cells_placed objects values lists reserved visits x = cells_from 0 objects values lists x ∙ go (number_in objects x) where
  go : (o : Option ℕ) → option_map (λ (j : ℕ). cell_at values lists (0 + j)) o ≡ option_map (cell_at values lists) o
  go None = refl
  go (Some j) = ap (λ (n : ℕ). Some (cell_at values lists n)) (omega arith)

-- ---- how many updates stand
cell_updates : (test : ℕ → Bool) (values : List ℤ) (lists : List (List Record)) (i : ℕ) → count_by (is_owned test) (cell_at values lists i).records ≡ owned_by test (get_or lists i [])
unfolding cell_at on updates_in
cell_updates test values lists i = updates_count test (get_or lists i []) (value_at values i)

updates_from : (test : ℕ → Bool) (i : ℕ) (objects : List Ob) (values : List ℤ) (lists : List (List Record)) → i + length objects ≡ length lists
    → updates_by test (rows_from i objects values lists) ≡ records_by test (drop i lists)
unfolding updates_by rows_from records_by owned_by
updates_from test i [] values lists many = sym (ap (records_by test) (drop_of_length-le lists (omega (arith, many))))
updates_from test i (x ∷ xs) values lists many =
    sum_by-cons (λ (row : ℕ × Cell). count_by (is_owned test) row.1.records) (x.0, cell_at values lists i) (rows_from (i + 1) xs values lists)
    ∙ (λ k. cell_updates test values lists i k + updates_from test (i + 1) xs values lists (omega (arith, many)) k)
    ∙ sym (sum_by-drop_more (λ (records : List Record). count_by (owned test) records) lists i [] (omega (arith, many)))

pub updates_placed : (test : ℕ → Bool) (objects : List Ob) (values : List ℤ) (lists : List (List Record)) (reserved : Bool) (visits : ℕ) → length lists ≡ length objects
    → updates_by test (object_table objects values lists reserved visits).rows ≡ records_by test lists
unfolding object_table
updates_placed test objects values lists reserved visits many = updates_from test 0 objects values lists (omega (arith, many))

-- ---- the table of an opening
-- each of the values is one of 64 bits
value_fits : (values : List ℤ) → map word values ≡ values → (i : ℕ) → word (value_at values i) ≡ value_at values i
unfolding value_at
value_fits [] fits i = zero_word where
  zero_word : word (pos 0) ≡ pos 0
  zero_word = int_wrap_fits w64 (pos 0) (omega arith)
value_fits (v ∷ values) fits zero = cc (ap (λ (l : List ℤ). get_or l 0 (pos 0)) fits)
value_fits (v ∷ values) fits (suc i) = value_fits values (ap (drop 1) fits) i

opened_value : (opening : Opening) (x : ℕ) → option_map (value_at (map (λ (pair : Ob × ℤ). pair.1) opening)) (number_in (map (λ (pair : Ob × ℤ). pair.0) opening) x) ≡ opening_at opening x
unfolding opening_at number_in value_at
opened_value [] x = refl
opened_value (pair ∷ pairs) x = go (eqb pair.0.0 x) (number_in (map (λ (p : Ob × ℤ). p.0) pairs) x) (opened_value pairs x) where
  go : (b : Bool) (o : Option ℕ) → option_map (value_at (map (λ (p : Ob × ℤ). p.1) pairs)) o ≡ option_map (λ (p : Ob × ℤ). p.1) (find (λ (p : Ob × ℤ). eqb p.0.0 x) pairs)
      → option_map (value_at (pair.1 ∷ map (λ (p : Ob × ℤ). p.1) pairs)) (cond b (Some 0) (option_map suc o))
      ≡ option_map (λ (p : Ob × ℤ). p.1) (cond b (Some pair) (find (λ (p : Ob × ℤ). eqb p.0.0 x) pairs))
  go true o ih = refl
  go false None ih = ih
  go false (Some j) ih = ih

pub cells_opened : (opening : Opening) (objects : List Ob) (values : List ℤ) (lists : List (List Record)) (reserved : Bool) (visits : ℕ) → IsOpened opening objects values lists
    → cells (object_table objects values lists reserved visits) ≡ opened opening
unfolding opened fresh cell_at recorded_cell grown base_of
cells_opened opening objects values lists reserved visits is = λ i. λ x. each x i where
  go : (x : ℕ) (o : Option ℕ) → option_map (cell_at values lists) o ≡ option_map fresh (option_map (value_at values) o)
  go x None = refl
  go x (Some j) = ap (λ (records : List Record). Some (recorded_cell records (value_at values j))) (is.none j) ∙ ap (λ (v : ℤ). Some (fresh v)) (value_fits values is.fits j)

  each : (x : ℕ) → cells (object_table objects values lists reserved visits) x ≡ option_map fresh (opening_at opening x)
  each x =
      cells_placed objects values lists reserved visits x
      ∙ go x (number_in objects x)
      ∙ ap (option_map fresh) ((λ i. option_map (value_at (is.valued i)) (number_in (is.named i) x)) ∙ opened_value opening x)

-- ---- what callers see of a change
-- a change of each object
pub each_changed : (change : Cell → Cell) (objects : List Ob) (values after : List ℤ) (old new : List (List Record)) (reserved kept : Bool) (visits visited : ℕ)
    → ((i : ℕ) → cell_at after new i ≡ change (cell_at values old i)) → cells (object_table objects after new kept visited) ≡ change_each change (cells (object_table objects values old reserved visits))
unfolding change_each
each_changed change objects values after old new reserved kept visits visited h = λ i. λ x. each x i where
  go : (o : Option ℕ) → option_map (cell_at after new) o ≡ option_map change (option_map (cell_at values old) o)
  go None = refl
  go (Some j) = ap Some (h j)

  each : (x : ℕ) → cells (object_table objects after new kept visited) x ≡ option_map change (cells (object_table objects values old reserved visits) x)
  each x =
      cells_placed objects after new kept visited x
      ∙ go (number_in objects x)
      ∙ ap (option_map change) (sym (cells_placed objects values old reserved visits x))

-- a change of the object with this index
pub one_changed : (change : Cell → Cell) (x i : ℕ) (objects : List Ob) (values after : List ℤ) (old new : List (List Record)) (reserved kept : Bool) (visits visited : ℕ) → number_in objects x ≡ Some i
    → ((j : ℕ) → cell_at after new j ≡ cond (eqb i j) (change (cell_at values old j)) (cell_at values old j))
    → cells (object_table objects after new kept visited) ≡ change_at x change (cells (object_table objects values old reserved visits))
unfolding change_at
one_changed change x i objects values after old new reserved kept visits visited is h = λ k. λ y. each y k where
  go : (y : ℕ) (o : Option ℕ) → number_in objects y ≡ o → option_map (cell_at after new) o ≡ cond (eqb x y) (option_map change (option_map (cell_at values old) o)) (option_map (cell_at values old) o)
  go y None there = by_case (eqb x y) where
    none : Option Cell
    none = None

    by_case : (b : Bool) → none ≡ cond b none none
    by_case true = refl
    by_case false = refl
  go y (Some j) there = ap Some (h j ∙ ap (λ (b : Bool). cond b (change (cell_at values old j)) (cell_at values old j)) (number_same objects x y i j is there)) ∙ by_case (eqb x y) where
    by_case : (b : Bool) → Some (cond b (change (cell_at values old j)) (cell_at values old j)) ≡ cond b (Some (change (cell_at values old j))) (Some (cell_at values old j))
    by_case true = refl
    by_case false = refl

  each : (y : ℕ) → cells (object_table objects after new kept visited) y
      ≡ cond (eqb x y) (option_map change (cells (object_table objects values old reserved visits) y)) (cells (object_table objects values old reserved visits) y)
  each y =
      cells_placed objects after new kept visited y
      ∙ go y (number_in objects y) refl
      ∙ ap (λ (o : Option Cell). cond (eqb x y) (option_map change o) o) (sym (cells_placed objects values old reserved visits y))

-- ---- what callers see of one object
pub cell_found : (objects : List Ob) (values : List ℤ) (lists : List (List Record)) (reserved : Bool) (visits : ℕ) (table : ObjectTable) (x : ℕ) → object_table objects values lists reserved visits ≡ table
    → cells table x ≡ option_map (cell_at values lists) (number_in objects x)
cell_found objects values lists reserved visits table x view = sym (ap (λ (t : ObjectTable). cells t x) view) ∙ cells_placed objects values lists reserved visits x

pub value_found : (objects : List Ob) (values : List ℤ) (lists : List (List Record)) (reserved : Bool) (visits : ℕ) (table : ObjectTable) (x : ℕ) → object_table objects values lists reserved visits ≡ table
    → value_in (cells table) x ≡ option_map (λ (i : ℕ). word (value_at values i)) (number_in objects x)
unfolding value_in cell_at
value_found objects values lists reserved visits table x view = ap (option_map shown) (cell_found objects values lists reserved visits table x view) ∙ go (number_in objects x) where
  go : (o : Option ℕ) → option_map shown (option_map (cell_at values lists) o) ≡ option_map (λ (i : ℕ). word (value_at values i)) o
  go None = refl
  go (Some j) = ap Some (shown_in_place (on lists j) (value_at values j))

pub has_index : (objects : List Ob) (values : List ℤ) (lists : List (List Record)) (reserved : Bool) (visits : ℕ) (table : ObjectTable) (x : ℕ) → object_table objects values lists reserved visits ≡ table
    → has_object (cells table) x ≡ is_some (number_in objects x)
unfolding has_object
has_index objects values lists reserved visits table x view = ap is_some (cell_found objects values lists reserved visits table x view) ∙ go (number_in objects x) where
  go : (o : Option ℕ) → is_some (option_map (cell_at values lists) o) ≡ is_some o
  go None = refl
  go (Some j) = refl

-- a value is read, whatever stands for none
pub read_value : (values : List ℤ) (i : ℕ) (value : ℤ) → i < length values → value ≡ get_or values i value → value ≡ value_at values i
unfolding value_at
read_value values i value within is = is ∙ go values i within where
  go : (some : List ℤ) (k : ℕ) → k < length some → get_or some k value ≡ get_or some k (pos 0)
  go [] k below = absurd (omega arith)
  go (first ∷ rest) zero below = refl
  go (first ∷ rest) (suc k) below = go rest k (omega arith)

-- an update, object by object: one more record on the object, and its value in place
pub update_cells : (change : Cell → Cell) (values : List ℤ) (old new : List (List Record)) (i : ℕ) (last : Record) (value : ℤ) → i < length values
    → ((records : List Record) → recorded_cell (records ++ last ∷ []) value ≡ change (recorded_cell records (value_at values i))) → ChangesOn i (on old i ++ last ∷ []) old new
    → (j : ℕ) → cell_at (slice_set values i value) new j ≡ cond (eqb i j) (change (cell_at values old j)) (cell_at values old j)
unfolding cell_at value_at ChangesOn
update_cells change values old new i last value within pushed changes j = go (eqb i j) refl where
  go : (b : Bool) → eqb i j ≡ b → recorded_cell (on new j) (get_or (set values i value) j (pos 0)) ≡ cond b (change (recorded_cell (on old j) (get_or values j (pos 0)))) (recorded_cell (on old j) (get_or values j (pos 0)))
  go true e =
      let here : i ≡ j = eqb-true i j e in
      let now : on new j ≡ on old j ++ last ∷ [] = changes.1 j ∙ ap (λ (b : Bool). cond b (on old i ++ last ∷ []) (on old j)) e ∙ ap (λ (k : ℕ). on old k ++ last ∷ []) here in
      let put : get_or (set values i value) j (pos 0) ≡ value = ap (λ (k : ℕ). get_or (set values i value) k (pos 0)) (sym here) ∙ get_or-set_same values i value (pos 0) within in
      (λ k. recorded_cell (now k) (put k))
      ∙ pushed (on old j)
      ∙ ap (λ (k : ℕ). change (recorded_cell (on old j) (get_or values k (pos 0)))) here
  go false e =
      let now : on new j ≡ on old j = changes.1 j ∙ ap (λ (b : Bool). cond b (on old i ++ last ∷ []) (on old j)) e in
      λ k. recorded_cell (now k) (get_or-set_other values i j value (pos 0) (λ same. eqb-false i j e (sym same)) k)

pub updates_shown : (test : ℕ → Bool) (objects : List Ob) (values : List ℤ) (lists : List (List Record)) (reserved : Bool) (visits : ℕ) (table : ObjectTable) → object_table objects values lists reserved visits ≡ table
    → length lists ≡ length objects → updates_by test table.rows ≡ records_by test lists
updates_shown test objects values lists reserved visits table view many = sym (ap (λ (t : ObjectTable). updates_by test t.rows) view) ∙ updates_placed test objects values lists reserved visits many

-- ---- an opening, pair by pair
on_past : (lists : List (List Record)) (i : ℕ) → length lists ≤ i → on lists i ≡ []
unfolding on
on_past lists i past = get_or_past lists i [] past

on_more : (lists : List (List Record)) (i : ℕ) → on (lists ++ [] ∷ []) i ≡ on lists i
unfolding on
on_more lists i = read_more lists [] i

pub opened_nothing : (objects : List Ob) (values : List ℤ) (lists : List (List Record)) → objects ≡ [] → values ≡ [] → lists ≡ [] → IsOpened [] objects values lists
opened_nothing objects values lists no_objects no_values no_lists = record {
  named = no_objects;
  valued = no_values;
  fits = ap (map word) no_values ∙ sym no_values;
  many = ap length no_lists;
  none = λ i. ap (λ (some : List (List Record)). on some i) no_lists ∙ past i;
} where
  past : (i : ℕ) → on [] i ≡ []
  past i = on_past [] i (omega arith)

pub opened_more : (opening : Opening) (pair : Ob × ℤ) (objects more : List Ob) (values grown : List ℤ) (lists longer : List (List Record)) → IsOpened opening objects values lists → more ≡ objects ++ pair.0 ∷ [] → grown ≡ values ++ pair.1 ∷ []
    → longer ≡ lists ++ [] ∷ [] → word pair.1 ≡ pair.1 → IsOpened (opening ++ pair ∷ []) more grown longer
opened_more opening pair objects more values grown lists longer is object value list fits = record {
  named = object ∙ ap (λ (some : List Ob). some ++ pair.0 ∷ []) is.named ∙ sym (map-append (λ (p : Ob × ℤ). p.0) opening (pair ∷ []));
  valued = value ∙ ap (λ (some : List ℤ). some ++ pair.1 ∷ []) is.valued ∙ sym (map-append (λ (p : Ob × ℤ). p.1) opening (pair ∷ []));
  fits = ap (map word) value ∙ map-append word values (pair.1 ∷ []) ∙ (λ i. is.fits i ++ fits i ∷ []) ∙ sym value;
  many = omega (arith, is.many, ap length list, length-append lists ([] ∷ []), length-append opening (pair ∷ []));
  none = λ i. ap (λ (some : List (List Record)). on some i) list ∙ on_more lists i ∙ is.none i;
}

-- an object that is not among the objects makes no double
pub new_pair : (opening : Opening) (pair : Ob × ℤ) (objects : List Ob) → objects ≡ map (λ (p : Ob × ℤ). p.0) opening → lists (numbers objects) pair.0.0 ≡ false → HasNoDouble (objects_of opening)
    → HasNoDouble (objects_of (opening ++ pair ∷ []))
unfolding numbers
new_pair opening pair objects named new none =
    let unlisted : lists (objects_of opening) pair.0.0 ≡ false = ap (λ (ns : List ℕ). lists ns pair.0.0) (sym (ap (map (λ (x : Ob). x.0)) named ∙ twice_mapped opening)) ∙ new in
    rw map-append (no_double_push (objects_of opening) pair.0.0 unlisted none) where
      twice_mapped : (pairs : Opening) → map (λ (x : Ob). x.0) (map (λ (p : Ob × ℤ). p.0) pairs) ≡ map (λ (p : Ob × ℤ). p.0.0) pairs
      twice_mapped [] = refl
      twice_mapped (p ∷ pairs) = ap (λ (ns : List ℕ). p.0.0 ∷ ns) (twice_mapped pairs)

-- a reservation changes no cell
pub rows_cells : (objects : List Ob) (values : List ℤ) (lists : List (List Record)) (reserved kept : Bool) (visits : ℕ) → cells (object_table objects values lists reserved visits) ≡ cells (object_table objects values lists kept visits)
unfolding object_table cells
rows_cells objects values lists reserved kept visits = refl

-- an object that was added is not listed
pub not_listed : (test : Ob → Bool) (x : ℕ) → ((y : Ob) → test y ≡ eqb x y.0) → (objects : List Ob) (is_new : Bool) → is_new ≡ not (list_any test objects) → OnTrue is_new (lists (numbers objects) x ≡ false)
not_listed test x h objects false is = tt
not_listed test x h objects true is = lists_numbers objects x ∙ same objects ∙ not-true (list_any test objects) (sym is) where
  same : (some : List Ob) → list_any (λ (o : Ob). eqb o.0 x) some ≡ list_any test some
  same [] = refl
  same (y ∷ ys) = λ i. (eqb-flip y.0 x ∙ sym (h y)) i || same ys i

-- an object exists exactly where it has a value
pub has_value : (table : ObjectTable) (x : ℕ) → is_some (value_in (cells table) x) ≡ has_object (cells table) x
unfolding value_in has_object
has_value table x = go (cells table x) where
  go : (cell : Option Cell) → is_some (option_map shown cell) ≡ is_some cell
  go None = refl
  go (Some cell) = refl

pub no_value : (table : ObjectTable) (x : ℕ) → has_object (cells table) x ≡ false → value_in (cells table) x ≡ None
unfolding value_in has_object
no_value table x none = go (cells table x) none where
  go : (cell : Option Cell) → is_some cell ≡ false → option_map shown cell ≡ None
  go None is = refl
  go (Some cell) is = cc is

-- ---- the numbers of objects, as callers see them
named_rows : (i : ℕ) (objects : List Ob) (values : List ℤ) (lists : List (List Record)) → map {A = ℕ × Cell} {B = Ob} (λ (row : ℕ × Cell). record { 0 = row.0 }) (rows_from i objects values lists) ≡ objects
unfolding rows_from
named_rows i [] values lists = refl
named_rows i (x ∷ xs) values lists = ap (λ (l : List Ob). x ∷ l) (named_rows (i + 1) xs values lists)

pub number_named : (parts : ObjectParts) (x : ℕ) → number_of (objects_in parts) x ≡ number_in parts.objects x
unfolding number_of named_in object_table
number_named parts x = ap (λ (l : List Ob). number_in l x) (named_rows 0 parts.objects parts.values (lists_in parts.records))

-- an object exists if it has a number
pub number_known : (table : ObjectTable) (x : ℕ) → is_some (number_of table x) ≡ has_object (cells table) x
unfolding number_of named_in cells has_object number_in
number_known table x = go table.rows where
  suc_known : (o : Option ℕ) → is_some (option_map suc o) ≡ is_some o
  suc_known None = refl
  suc_known (Some n) = refl

  go : (rows : List (ℕ × Cell)) → is_some (number_in (map {A = ℕ × Cell} {B = Ob} (λ (row : ℕ × Cell). record { 0 = row.0 }) rows) x) ≡ is_some (option_map (λ (row : ℕ × Cell). row.1) (find (λ (row : ℕ × Cell). eqb row.0 x) rows))
  go [] = refl
  go (row ∷ rows) = by_case (eqb row.0 x) (suc_known (number_in (map {A = ℕ × Cell} {B = Ob} (λ (row : ℕ × Cell). record { 0 = row.0 }) rows) x) ∙ go rows) where
    by_case : (b : Bool)
        → is_some (option_map suc (number_in (map {A = ℕ × Cell} {B = Ob} (λ (row : ℕ × Cell). record { 0 = row.0 }) rows) x)) ≡ is_some (option_map (λ (row : ℕ × Cell). row.1) (find (λ (row : ℕ × Cell). eqb row.0 x) rows))
        → is_some (cond b (Some 0) (option_map suc (number_in (map {A = ℕ × Cell} {B = Ob} (λ (row : ℕ × Cell). record { 0 = row.0 }) rows) x))) ≡ is_some (option_map (λ (row : ℕ × Cell). row.1) (cond b (Some row) (find (λ (row : ℕ × Cell). eqb row.0 x) rows)))
    by_case true rest = refl
    by_case false rest = rest
