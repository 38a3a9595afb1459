-- Updates that become another transaction's.
use Rattle.std.proofs.Common.{◌≡◌, ℕ, Bool, true, false, cond, eqb, ◌||◌, List, [], ◌∷◌, map, Option, Some, None, refl, sym, ap, ◌∙◌}
use Rattle.std.specs.Prelude.{ℤ, ◌+ℤ◌}
use Rattle.std.specs.Option.{option_map}
use Rattle.std.specs.List.{list_any}
use Rattle.std.proofs.lemmas.Bool.{eqb-true}
use Rattle.std.proofs.lemmas.Option.{slice_get-get_or}
use Rattle.asset_names.specs.declared.names.Ob.{Ob}
use Rattle.asset_names.proofs.Common.{eqb-flip}
use Rattle.asset_names.specs.declared.sets.ObSet.{ObSet}
use Rattle.asset_names.specs.declared.sets.ObSet.TheVariants.{All, Listed}
use Rattle.asset_names.specs.InSet.{in_set, only_in}
use Rattle.asset_names.specs.Arrows.{lists}
use Rattle.asset_names.specs.Sets.{numbers}
use Rattle.asset_records.specs.declared.records.Record.{Record}
use Rattle.asset_records.specs.Listed.{on, is_of, is_owned as owned, owner_of}
use Rattle.asset_records.specs.declared.records.Record.TheVariants.{Write, Add, Lasting}
use Rattle.asset_names.specs.declared.names.Txn.{Txn}
use Rattle.std.specs.Int.{w64, int_wrap}
use Rattle.asset_objects.proofs.UpdateLemmas.{handed_lasting}
use Rattle.asset_records.specs.Handed.{renamed}
use Rattle.asset_objects.specs.Cells.{Cell, ObjectTable, cells, fresh, wrote, added, has_wrote, is_owned, updated, lasting, has_update, handed_update, handed_cell, change_where}
use Rattle.asset_objects.specs.Placed.{below, base_of, stood, grown, recorded_cell, value_at, cell_at, is_in, is_among, object_table}
use Rattle.asset_names.specs.Numbered.{number_in}
use Rattle.asset_objects.proofs.PlacedLemmas.{cells_placed}
use Rattle.asset_names.proofs.NumberLemmas.{number_reads, number_same}

-- ---- one record
below_renamed : (giver taker : ℕ) (value : ℤ) (one : Record) → below value (renamed giver taker one) ≡ below value one
unfolding renamed below
below_renamed giver taker value (Write owner before) = refl
below_renamed giver taker value (Add owner amount) = refl
below_renamed giver taker value (Lasting amount) = refl

named : (giver taker : ℕ) (owner : Txn) → (cond (eqb owner.0 giver) (record { 0 = taker }) owner).0 ≡ cond (eqb owner.0 giver) taker owner.0
named giver taker owner = go (eqb owner.0 giver) where
  go : (b : Bool) → (cond b (record { 0 = taker }) owner).0 ≡ cond b taker owner.0
  go true = refl
  go false = refl

stood_renamed : (giver taker : ℕ) (one : Record) (value : ℤ) (cell : Cell) → stood (renamed giver taker one) value (handed_cell giver taker cell) ≡ handed_cell giver taker (stood one value cell)
unfolding renamed stood updated handed_cell handed_update
stood_renamed giver taker (Write owner before) value cell = ap (λ (n : ℕ). updated (Some n) (wrote value) (handed_cell giver taker cell)) (named giver taker owner)
stood_renamed giver taker (Add owner amount) value cell = ap (λ (n : ℕ). updated (Some n) (added amount) (handed_cell giver taker cell)) (named giver taker owner)
stood_renamed giver taker (Lasting amount) value cell = handed_lasting giver taker amount cell

-- ---- the cell of an object
base_renamed : (giver taker : ℕ) (records : List Record) (value : ℤ) → base_of (map (renamed giver taker) records) value ≡ base_of records value
unfolding base_of
base_renamed giver taker [] value = refl
base_renamed giver taker (first ∷ later) value = below_renamed giver taker (base_of (map (renamed giver taker) later) value) first ∙ ap (λ (v : ℤ). below v first) (base_renamed giver taker later value)

grown_renamed : (giver taker : ℕ) (cell : Cell) (records : List Record) (value : ℤ) → grown (handed_cell giver taker cell) (map (renamed giver taker) records) value ≡ handed_cell giver taker (grown cell records value)
unfolding grown
grown_renamed giver taker cell [] value = refl
grown_renamed giver taker cell (first ∷ later) value =
    ap (λ (v : ℤ). grown (stood (renamed giver taker first) v (handed_cell giver taker cell)) (map (renamed giver taker) later) value) (base_renamed giver taker later value)
    ∙ ap (λ (c : Cell). grown c (map (renamed giver taker) later) value) (stood_renamed giver taker first (base_of later value) cell)
    ∙ grown_renamed giver taker (stood first (base_of later value) cell) later value

pub cell_renamed : (giver taker : ℕ) (records : List Record) (value : ℤ) → recorded_cell (map (renamed giver taker) records) value ≡ handed_cell giver taker (recorded_cell records value)
unfolding recorded_cell handed_cell fresh
cell_renamed giver taker records value =
    ap (λ (v : ℤ). grown (fresh v) (map (renamed giver taker) records) value) (base_renamed giver taker records value)
    ∙ grown_renamed giver taker (fresh (base_of records value)) records value

-- ---- an object by its index
pub one_handed : (giver taker : ℕ) (objects : List Ob) (x j : ℕ) (old new : List (List Record)) → number_in objects x ≡ Some j → ((i : ℕ) → on new i ≡ cond (eqb i j) (map (renamed giver taker) (on old i)) (on old i))
    → (y i : ℕ) → number_in objects y ≡ Some i → on new i ≡ cond (eqb x y) (map (renamed giver taker) (on old i)) (on old i)
one_handed giver taker objects x j old new at changes y i there = changes i ∙ ap (λ (b : Bool). cond b (map (renamed giver taker) (on old i)) (on old i)) (eqb-flip i j ∙ number_same objects x y j i at there)

-- an object that does not exist is none of those that do
pub none_handed : (giver taker : ℕ) (objects : List Ob) (x : ℕ) (lists : List (List Record)) → number_in objects x ≡ None → (y i : ℕ) → number_in objects y ≡ Some i → on lists i ≡ cond (eqb x y) (map (renamed giver taker) (on lists i)) (on lists i)
none_handed giver taker objects x lists none y i there = go (eqb x y) refl where
  go : (b : Bool) → eqb x y ≡ b → on lists i ≡ cond b (map (renamed giver taker) (on lists i)) (on lists i)
  go true e = let wrong : None ≡ Some i = sym none ∙ ap (number_in objects) (eqb-true x y e) ∙ there in absurd (cc wrong)
  go false e = refl

-- the object with an index is in the set exactly if its name is
pub among_is : (objects : List Ob) (set : ObSet) (y i : ℕ) → number_in objects y ≡ Some i → is_among objects set i ≡ in_set set y
unfolding is_among is_in
among_is objects set y i there =
    let reads = number_reads objects y i there in
    ap (is_in set) (slice_get-get_or objects i (record { 0 = 0 }) reads.0) ∙ ap (in_set set) (reads.1 (record { 0 = 0 }))

-- a set that lists one object alone has that one
pub only_is : (set : ObSet) (x : Ob) (y : ℕ) → only_in set ≡ Some x → in_set set y ≡ eqb x.0 y
unfolding only_in in_set lists numbers
only_is All x y only = cc only
only_is (Listed []) x y only = cc only
only_is (Listed (z ∷ [])) x y only = let same : z ≡ x = cc only in or_no (eqb z.0 y) ∙ ap (λ (o : Ob). eqb o.0 y) same where
  or_no : (b : Bool) → (b || false) ≡ b
  or_no true = refl
  or_no false = refl
only_is (Listed (z ∷ w ∷ more)) x y only = cc only

-- ---- who has an update
any_lasting : (test : ℕ → Bool) (d : ℤ) (cell : Cell) → list_any (is_owned test) (lasting d cell).records ≡ list_any (is_owned test) cell.records
unfolding lasting updated
any_lasting test d cell = go (has_wrote cell) where
  go : (wrote : Bool) → list_any (is_owned test) (cond wrote (updated None (added d) cell) (record cell { base = int_wrap w64 (cell.base +ℤ d) })).records ≡ list_any (is_owned test) cell.records
  go true = refl
  go false = refl

any_stood : (test : ℕ → Bool) (one : Record) (value : ℤ) (cell : Cell) → list_any (is_owned test) (stood one value cell).records ≡ (owned test one || list_any (is_owned test) cell.records)
unfolding stood updated owned owner_of
any_stood test (Write owner before) value cell = refl
any_stood test (Add owner amount) value cell = refl
any_stood test (Lasting amount) value cell = any_lasting test amount cell

any_grown : (test : ℕ → Bool) (cell : Cell) (records : List Record) (value : ℤ) → list_any (is_owned test) (grown cell records value).records ≡ (list_any (owned test) records || list_any (is_owned test) cell.records)
unfolding grown
any_grown test cell [] value = refl
any_grown test cell (first ∷ later) value =
    any_grown test (stood first (base_of later value) cell) later value
    ∙ ap (λ (b : Bool). list_any (owned test) later || b) (any_stood test first (base_of later value) cell)
    ∙ turned (list_any (owned test) later) (owned test first) (list_any (is_owned test) cell.records) where
      turned : (a b c : Bool) → (a || (b || c)) ≡ ((b || a) || c)
      turned true true c = refl
      turned true false c = refl
      turned false true c = refl
      turned false false c = refl

any_updated : (t : ℕ) (records : List Record) (value : ℤ) → list_any (is_owned (λ n. eqb n t)) (recorded_cell records value).records ≡ list_any (is_of t) records
unfolding recorded_cell fresh
any_updated t records value = any_grown (λ n. eqb n t) (fresh (base_of records value)) records value ∙ or_no (list_any (is_of t) records) where
  or_no : (b : Bool) → (b || false) ≡ b
  or_no true = refl
  or_no false = refl

-- an object whose cell has an update of the transaction's has a record of it
pub updated_on : (objects : List Ob) (values : List ℤ) (lists : List (List Record)) (reserved : Bool) (visits : ℕ) (table : ObjectTable) (t x : ℕ) (cell : Cell) → object_table objects values lists reserved visits ≡ table → cells table x ≡ Some cell
    → has_update t cell ≡ true → (i : ℕ) × (number_in objects x ≡ Some i) × (list_any (is_of t) (on lists i) ≡ true)
unfolding has_update cell_at
updated_on objects values lists reserved visits table t x cell view there has = go (number_in objects x) refl where
  at : option_map (cell_at values lists) (number_in objects x) ≡ Some cell
  at = sym (cells_placed objects values lists reserved visits x) ∙ ap (λ (table : ObjectTable). cells table x) view ∙ there

  go : (o : Option ℕ) → number_in objects x ≡ o → (i : ℕ) × (number_in objects x ≡ Some i) × (list_any (is_of t) (on lists i) ≡ true)
  go None e = let wrong : None ≡ Some cell = ap (option_map (cell_at values lists)) (sym e) ∙ at in absurd (cc wrong)
  go (Some i) e =
      let both : Some (cell_at values lists i) ≡ Some cell = ap (option_map (cell_at values lists)) (sym e) ∙ at in
      let is : cell_at values lists i ≡ cell = cc both in
      (i, e, sym (any_updated t (on lists i) (value_at values i)) ∙ ap (λ (c : Cell). list_any (is_owned (λ n. eqb n t)) c.records) is ∙ has)

-- ---- what callers see
pub where_handed : (test : ℕ → Bool) (giver taker : ℕ) (objects : List Ob) (values : List ℤ) (old new : List (List Record)) (reserved : Bool) (visits after : ℕ)
    → ((y i : ℕ) → number_in objects y ≡ Some i → on new i ≡ cond (test y) (map (renamed giver taker) (on old i)) (on old i))
    → cells (object_table objects values new reserved after) ≡ change_where test (handed_cell giver taker) (cells (object_table objects values old reserved visits))
unfolding change_where cell_at
where_handed test giver taker objects values old new reserved visits after handed = λ k. λ y. each y k where
  by_case : (b : Bool) (i : ℕ) → on new i ≡ cond b (map (renamed giver taker) (on old i)) (on old i)
      → Some (cell_at values new i) ≡ cond b (Some (handed_cell giver taker (cell_at values old i))) (Some (cell_at values old i))
  by_case true i is = ap Some (ap (λ (records : List Record). recorded_cell records (value_at values i)) is ∙ cell_renamed giver taker (on old i) (value_at values i))
  by_case false i is = ap (λ (records : List Record). Some (recorded_cell records (value_at values i))) is

  nothing : (b : Bool) → option_map (cell_at values new) None ≡ cond b (option_map (handed_cell giver taker) (option_map (cell_at values old) None)) (option_map (cell_at values old) None)
  nothing true = refl
  nothing false = refl

  go : (y : ℕ) (o : Option ℕ) → number_in objects y ≡ o → option_map (cell_at values new) o ≡ cond (test y) (option_map (handed_cell giver taker) (option_map (cell_at values old) o)) (option_map (cell_at values old) o)
  go y None there = nothing (test y)
  go y (Some i) there = by_case (test y) i (handed y i there)

  each : (y : ℕ) → cells (object_table objects values new reserved after) y
      ≡ cond (test y) (option_map (handed_cell giver taker) (cells (object_table objects values old reserved visits) y)) (cells (object_table objects values old reserved visits) y)
  each y =
      cells_placed objects values new reserved after y
      ∙ go y (number_in objects y) refl
      ∙ ap (λ (o : Option Cell). cond (test y) (option_map (handed_cell giver taker) o) o) (sym (cells_placed objects values old reserved visits y))
