-- What becomes of each object as a record of a transaction that ends goes.
use Rattle.std.proofs.Common.{◌≡◌, ℕ, ◌+◌, ◌<◌, Bool, true, false, cond, eqb, List, [], ◌∷◌, ◌++◌, length, map, ◌||◌, get_or, set, refl, sym, ap, ◌∙◌, arith, Option, Some, None, inl, inr}
use Rattle.std.specs.Prelude.{ℤ}
use Rattle.std.proofs.lemmas.Bool.{cases_lt, eqb-true, eqb-false, ne_eqb}
use Rattle.std.proofs.lemmas.List.{ext_get_or, length-set, length-append, get_or-set_same, get_or-set_other, get_or_past}
use Rattle.std.proofs.lemmas.List.Sums.{sum_by-set}
use Rattle.asset_records.specs.declared.records.Record.{Record}
use Rattle.asset_records.specs.declared.mending.Mend.{Mend}
use Rattle.asset_records.specs.declared.records.Record.TheVariants.{Lasting}
use Rattle.asset_records.specs.Mended.{has_write, mended, mended_in, mend_of}
use Rattle.asset_records.specs.Listed.{on, owner_of, owner_passes, is_owned as owned, settled_on, settled_many, ChangesOn, TakesBack, Settles, Sheds, HasNone}
use Rattle.asset_names.specs.declared.statuses.End.TheVariants.{Committed, Aborted}
use Rattle.asset_objects.specs.Cells.{ended, undone, settled}
use Rattle.std.specs.List.{list_any}
use Rattle.asset_names.specs.declared.names.Txn.{Txn}
use Rattle.asset_names.specs.declared.statuses.End.{End}
use Rattle.asset_records.specs.Listed.{records_by}
use Rattle.asset_objects.specs.Placed.{value_at, cell_at, recorded_cell, restored_value}
use Rattle.asset_objects.proofs.CellLemmas.{owned_by, placed_value, undone_back, settled_back, cell_shed, ended_none, count_back, count_settled, count_settled_of, count_shed}

-- ---- the lists after one of them has changed
-- an object with a record is one of the objects
pub on_within : (lists : List (List Record)) (i : ℕ) (older later : List Record) (gone : Record) → on lists i ≡ older ++ gone ∷ later → i < length lists
unfolding on
on_within lists i older later gone stood =
    elim (cases_lt i (length lists)) [
      | inl within ↦ within
      | inr past ↦ absurd (omega (arith, ap length (sym (get_or_past lists i [] past) ∙ stood), length-append older (gone ∷ later)))
    ]

changed_is : (i : ℕ) (records : List Record) (old new : List (List Record)) → i < length old → ChangesOn i records old new → new ≡ set old i records
unfolding on ChangesOn
changed_is i records old new within changes = ext_get_or [] new (set old i records) (changes.0 ∙ sym (length-set old i records)) (λ j below. changes.1 j ∙ go j (eqb i j) refl) where
  go : (j : ℕ) (b : Bool) → eqb i j ≡ b → cond b records (get_or old j []) ≡ get_or (set old i records) j []
  go j true e = sym (get_or-set_same old i records [] within) ∙ ap (λ (k : ℕ). get_or (set old i records) k []) (eqb-true i j e)
  go j false e = sym (get_or-set_other old i j records [] (λ same. eqb-false i j e (sym same)))

changed_sum : (test : ℕ → Bool) (i : ℕ) (records : List Record) (old new : List (List Record)) → i < length old → ChangesOn i records old new
    → records_by test new + owned_by test (on old i) ≡ records_by test old + owned_by test records
unfolding records_by owned_by on
changed_sum test i records old new within changes = ap (λ (lists : List (List Record)). records_by test lists + owned_by test (get_or old i [])) (changed_is i records old new within changes) ∙ sum_by-set (owned_by test) old i records [] within

-- ---- a record is taken back
module _ (t i : ℕ) (restored : Option Mend) (old new : List (List Record)) (back : TakesBack t i restored old new) where
  pub back_within : i < length old
  back_within = on_within old i back.older back.later back.gone back.stood

  abbrev mend : Mend
  mend = mend_of back.gone back.later

  pub back_count : records_by (λ n. eqb n t) new + 1 ≡ records_by (λ n. eqb n t) old
  back_count =
      omega (arith, changed_sum (λ n. eqb n t) i (back.older ++ mended_in mend back.later) old new back_within back.changes, ap (owned_by (λ n. eqb n t)) back.stood, count_back (λ n. eqb n t) back.older back.gone mend back.later back.owner)

  pub back_many : length new ≡ length old
  unfolding ChangesOn
  back_many = back.changes.0

  -- the value in place is mended if no write found the value
  restores : (value : ℤ) → restored_value restored value ≡ placed_value mend back.later value
  unfolding restored_value placed_value
  restores value = ap (λ (o : Option Mend). restored_value o value) back.restores ∙ go (has_write back.later) where
    go : (b : Bool) → restored_value (cond b None (Some mend)) value ≡ cond b value (mended mend value)
    go true = refl
    go false = refl

  pub back_cells : (values after : List ℤ) → ((j : ℕ) → value_at after j ≡ cond (eqb i j) (restored_value restored (value_at values j)) (value_at values j))
      → (j : ℕ) → undone (λ n. eqb n t) (cell_at after new j) ≡ undone (λ n. eqb n t) (cell_at values old j)
  unfolding cell_at ChangesOn
  back_cells values after put j = go (eqb i j) refl where
    go : (b : Bool) → eqb i j ≡ b → undone (λ n. eqb n t) (recorded_cell (on new j) (value_at after j)) ≡ undone (λ n. eqb n t) (recorded_cell (on old j) (value_at values j))
    go true e =
        let now : on new j ≡ back.older ++ mended_in mend back.later = back.changes.1 j ∙ ap (λ (b : Bool). cond b (back.older ++ mended_in mend back.later) (on old j)) e in
        let was : on old j ≡ back.older ++ back.gone ∷ back.later = ap (on old) (sym (eqb-true i j e)) ∙ back.stood in
        let value : value_at after j ≡ placed_value mend back.later (value_at values j) =
        put j ∙ ap (λ (b : Bool). cond b (restored_value restored (value_at values j)) (value_at values j)) e ∙ restores (value_at values j) in
        (λ k. undone (λ n. eqb n t) (recorded_cell (now k) (value k)))
        ∙ undone_back (λ n. eqb n t) back.older back.gone back.later (value_at values j) back.owner
        ∙ ap (λ (records : List Record). undone (λ n. eqb n t) (recorded_cell records (value_at values j))) (sym was)
    go false e =
        let now : on new j ≡ on old j = back.changes.1 j ∙ ap (λ (b : Bool). cond b (back.older ++ mended_in mend back.later) (on old j)) e in
        let value : value_at after j ≡ value_at values j = put j ∙ ap (λ (b : Bool). cond b (restored_value restored (value_at values j)) (value_at values j)) e in
        λ k. undone (λ n. eqb n t) (recorded_cell (now k) (value k))

-- ---- a record comes to stand for good
module _ (t object visited : ℕ) (old new : List (List Record)) (went : Settles t object visited old new) where
  went_within : object < length old
  went_within = on_within old object went.older went.later went.gone went.stood

  abbrev rest : List Record
  rest = settled_on went.lasts went.gone went.older went.later

  pub went_count : records_by (λ n. true) new + settled_many went.gone went.older ≡ records_by (λ n. true) old
  went_count =
      omega (arith, changed_sum (λ n. true) object rest old new went_within went.changes, ap (owned_by (λ n. true)) went.stood, count_settled went.lasts went.older went.gone went.later)

  pub went_fewer : records_by (λ n. eqb n t) new < records_by (λ n. eqb n t) old
  went_fewer =
      omega (arith, changed_sum (λ n. eqb n t) object rest old new went_within went.changes, ap (owned_by (λ n. eqb n t)) went.stood, count_settled_of (λ n. eqb n t) went.lasts went.older went.gone went.later went.owner)

  pub went_many : length new ≡ length old
  unfolding ChangesOn
  went_many = went.changes.0

  pub went_cells : (values : List ℤ) (j : ℕ) → settled (λ n. eqb n t) (cell_at values new j) ≡ settled (λ n. eqb n t) (cell_at values old j)
  unfolding cell_at ChangesOn
  went_cells values j = go (eqb object j) refl where
    go : (b : Bool) → eqb object j ≡ b → settled (λ n. eqb n t) (recorded_cell (on new j) (value_at values j)) ≡ settled (λ n. eqb n t) (recorded_cell (on old j) (value_at values j))
    go true e =
        let now : on new j ≡ rest = went.changes.1 j ∙ ap (λ (b : Bool). cond b rest (on old j)) e in
        let was : on old j ≡ went.older ++ went.gone ∷ went.later = ap (on old) (sym (eqb-true object j e)) ∙ went.stood in
        ap (λ (records : List Record). settled (λ n. eqb n t) (recorded_cell records (value_at values j))) now
        ∙ settled_back (λ n. eqb n t) went.lasts went.older went.gone went.later (value_at values j) went.owner went.alone
        ∙ ap (λ (records : List Record). settled (λ n. eqb n t) (recorded_cell records (value_at values j))) (sym was)
    go false e =
        let now : on new j ≡ on old j = went.changes.1 j ∙ ap (λ (b : Bool). cond b rest (on old j)) e in
        ap (λ (records : List Record). settled (λ n. eqb n t) (recorded_cell records (value_at values j))) now

-- ---- adds of nobody are shed
module _ (object : ℕ) (old new : List (List Record)) (sheds : Sheds object old new) where
  pub shed_many : length new ≡ length old
  unfolding ChangesOn
  shed_many = sheds.changes.0

  pub shed_cells : (values : List ℤ) (j : ℕ) → cell_at values new j ≡ cell_at values old j
  unfolding cell_at ChangesOn
  shed_cells values j = go (eqb object j) refl where
    go : (b : Bool) → eqb object j ≡ b → recorded_cell (on new j) (value_at values j) ≡ recorded_cell (on old j) (value_at values j)
    go true e =
        let now : on new j ≡ sheds.later = sheds.changes.1 j ∙ ap (λ (b : Bool). cond b sheds.later (on old j)) e in
        let was : on old j ≡ map Lasting sheds.amounts ++ sheds.later = ap (on old) (sym (eqb-true object j e)) ∙ sheds.stood in
        ap (λ (records : List Record). recorded_cell records (value_at values j)) now
        ∙ sym (cell_shed sheds.amounts sheds.later (value_at values j))
        ∙ ap (λ (records : List Record). recorded_cell records (value_at values j)) (sym was)
    go false e =
        let now : on new j ≡ on old j = sheds.changes.1 j ∙ ap (λ (b : Bool). cond b sheds.later (on old j)) e in
        ap (λ (records : List Record). recorded_cell records (value_at values j)) now

  pub shed_count : (test : ℕ → Bool) → records_by test new ≡ records_by test old
  unfolding ChangesOn on
  shed_count test = elim (cases_lt object (length old)) [
    | inl within ↦ omega (arith, changed_sum test object sheds.later old new within sheds.changes, ap (owned_by test) sheds.stood, count_shed test sheds.amounts sheds.later)
    | inr past ↦ ap (records_by test) (ext_get_or [] new old sheds.changes.0 (λ j below. sheds.changes.1 j ∙ ap (λ (b : Bool). cond b sheds.later (on old j)) (ne_eqb object j (λ same. absurd (omega (arith, past, below, same, sheds.changes.0))))))
  ]

-- ---- nothing is left
pub undone_all : (t : ℕ) (values : List ℤ) (lists : List (List Record)) → HasNone t lists → (j : ℕ) → undone (λ n. eqb n t) (cell_at values lists j) ≡ cell_at values lists j
unfolding cell_at HasNone
undone_all t values lists none j = ended_none Aborted (λ n. eqb n t) (on lists j) (value_at values j) (none j)

pub settled_all : (t : ℕ) (values : List ℤ) (lists : List (List Record)) → HasNone t lists → (j : ℕ) → settled (λ n. eqb n t) (cell_at values lists j) ≡ cell_at values lists j
unfolding cell_at HasNone
settled_all t values lists none j = ended_none Committed (λ n. eqb n t) (on lists j) (value_at values j) (none j)

-- no record is that of one who passes, if nobody does
nobodys : (one : Record) → owned (λ (n : ℕ). false) one ≡ false
unfolding owned
nobodys one = by (owner_of one) where
  by : (o : Option Txn) → owner_passes (λ (n : ℕ). false) o ≡ false
  by None = refl
  by (Some t) = refl

none_owned : (records : List Record) → list_any (owned (λ (n : ℕ). false)) records ≡ false
none_owned [] = refl
none_owned (one ∷ records) = λ i. (nobodys one i || none_owned records i)

-- an end of nobody changes nothing
pub nobody_ends : (how : End) (values : List ℤ) (lists : List (List Record)) (j : ℕ) → ended how (λ (n : ℕ). false) (cell_at values lists j) ≡ cell_at values lists j
unfolding cell_at
nobody_ends how values lists j = ended_none how (λ (n : ℕ). false) (on lists j) (value_at values j) (none_owned (on lists j))
