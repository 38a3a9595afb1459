-- The cell of an object by its records, as one of them comes or goes.
use Rattle.std.proofs.Common.{◌≡◌, ℕ, ℤ, ◌+ℤ◌, ◌-ℤ◌, ◌+◌, ◌<◌, neg_ℤ, w64, Bool, true, false, cond, List, [], ◌∷◌, ◌++◌, map, refl, sym, ap, ◌∙◌, arith, Some}
use Rattle.std.specs.List.{list_any, count_by}
use Rattle.std.proofs.lemmas.Bool.{or_parts, true≢false}
use Rattle.std.proofs.lemmas.Int.{int_wrap-add_left, int_wrap_fits, SFits-int_wrap}
use Rattle.std.proofs.lemmas.List.Sums.{sum_by-append, sum_by-cons}
use Rattle.std.proofs.Math.IntN.{+ℤ-neg_ℤ_cancel, -ℤ-+ℤ_cancel}
use Rattle.asset_names.specs.declared.names.Txn.{Txn}
use Rattle.asset_names.specs.declared.statuses.End.{End}
use Rattle.asset_names.specs.declared.statuses.End.TheVariants.{Committed, Aborted}
use Rattle.asset_records.specs.declared.mending.Mend.{Mend}
use Rattle.asset_records.specs.declared.mending.Mend.TheVariants.{Set, Less}
use Rattle.asset_records.specs.declared.records.Record.{Record}
use Rattle.asset_records.specs.declared.records.Record.TheVariants.{Write, Add, Lasting}
use Rattle.asset_records.specs.Listed.{owner_of, is_owned as owned, settled_on, settled_many}
use Rattle.asset_records.specs.Mended.{is_write, has_write, mended, mended_in, summed, mend_by, mend_of, content_of}
use Rattle.asset_objects.specs.Cells.{Cell, wrote, added, fresh, updated, lasting, placed, placed_anew, ended, undone, settled, written, increased, shown, after, shown_over, has_wrote}
use Rattle.asset_objects.specs.Placed.{word, below, base_of, stood, grown, recorded_cell}
use Rattle.asset_objects.proofs.UpdateLemmas.{plus_swap, raised, lasting_none, shown_lasting, IsRaised, lasting_raised, anew_raised, ended_lasting, ended_updated, ended_fresh, updates_in, count_updated, count_lasting}

-- ---- values of 64 bits
pub word_twice : (v : ℤ) → word (word v) ≡ word v
word_twice v = int_wrap_fits w64 (word v) (SFits-int_wrap w64 v)

below_word : (v : ℤ) (one : Record) → word (below v one) ≡ below v one
unfolding below
below_word v (Write owner before) = word_twice before
below_word v (Add owner amount) = word_twice (v -ℤ amount)
below_word v (Lasting amount) = word_twice (v -ℤ amount)

-- a base is of 64 bits
pub base_word : (records : List Record) (value : ℤ) → word (base_of records value) ≡ base_of records value
unfolding base_of
base_word [] value = word_twice value
base_word (first ∷ later) value = below_word (base_of later value) first

-- what was subtracted is added again
pub less_more : (v d : ℤ) → word v ≡ v → word (word (v -ℤ d) +ℤ d) ≡ v
less_more v d is = int_wrap-add_left w64 (v -ℤ d) d ∙ ap word (-ℤ-+ℤ_cancel v d) ∙ is

-- and the other way
pub more_less : (v d : ℤ) → word (word (v +ℤ d) -ℤ d) ≡ word v
more_less v d = int_wrap-add_left w64 (v +ℤ d) (neg_ℤ d) ∙ ap word (+ℤ-neg_ℤ_cancel v d)

less_word : (v d : ℤ) → word (word v -ℤ d) ≡ word (v -ℤ d)
less_word v d = int_wrap-add_left w64 v (neg_ℤ d)

-- ---- the records in two parts
pub base_append : (front back : List Record) (value : ℤ) → base_of (front ++ back) value ≡ base_of front (base_of back value)
unfolding base_of
base_append [] back value = sym (base_word back value)
base_append (first ∷ front) back value = ap (λ (v : ℤ). below v first) (base_append front back value)

grown_append : (cell : Cell) (front back : List Record) (value : ℤ) → grown cell (front ++ back) value ≡ grown (grown cell front (base_of back value)) back value
unfolding grown
grown_append cell [] back value = refl
grown_append cell (first ∷ front) back value =
    ap (λ (v : ℤ). grown (stood first v cell) (front ++ back) value) (base_append front back value)
    ∙ grown_append (stood first (base_of front (base_of back value)) cell) front back value

cell_append : (front back : List Record) (value : ℤ) → recorded_cell (front ++ back) value ≡ grown (recorded_cell front (base_of back value)) back value
unfolding recorded_cell
cell_append front back value =
    grown_append (fresh (base_of (front ++ back) value)) front back value
    ∙ ap (λ (v : ℤ). grown (grown (fresh v) front (base_of back value)) back value) (base_append front back value)

-- ---- a value and its 64 bits are one
base_words : (records : List Record) (value : ℤ) → base_of records (word value) ≡ base_of records value
unfolding base_of
base_words [] value = word_twice value
base_words (first ∷ later) value = ap (λ (v : ℤ). below v first) (base_words later value)

grown_words : (cell : Cell) (records : List Record) (value : ℤ) → grown cell records (word value) ≡ grown cell records value
unfolding grown
grown_words cell [] value = refl
grown_words cell (first ∷ later) value = ap (λ (v : ℤ). grown (stood first v cell) later (word value)) (base_words later value) ∙ grown_words (stood first (base_of later value) cell) later value

pub cell_words : (records : List Record) (value : ℤ) → recorded_cell records (word value) ≡ recorded_cell records value
unfolding recorded_cell
cell_words records value = ap (λ (v : ℤ). grown (fresh v) records (word value)) (base_words records value) ∙ grown_words (fresh (base_of records value)) records value

-- ---- a record comes
pub cell_written : (records : List Record) (owner : Txn) (before value : ℤ) → recorded_cell (records ++ Write owner before ∷ []) value ≡ written owner.0 (word value) (recorded_cell records before)
unfolding grown stood base_of below
cell_written records owner before value = cell_append records (Write owner before ∷ []) value ∙ ap (written owner.0 (word value)) (cell_words records before)

pub cell_increased : (records : List Record) (owner : Txn) (amount value : ℤ) → recorded_cell (records ++ Add owner amount ∷ []) (word (value +ℤ amount)) ≡ increased owner.0 amount (recorded_cell records value)
unfolding grown stood base_of below
cell_increased records owner amount value =
    cell_append records (Add owner amount ∷ []) (word (value +ℤ amount))
    ∙ ap (λ (v : ℤ). increased owner.0 amount (recorded_cell records v)) (ap (λ (v : ℤ). word (v -ℤ amount)) (word_twice (value +ℤ amount)) ∙ more_less value amount)
    ∙ ap (increased owner.0 amount) (cell_words records value)

-- ---- what an end makes of the records
-- the cell with the update of one more record, once those who pass the test have ended
restood : End → (ℕ → Bool) → Record → ℤ → Cell → Cell
restood how test (Write owner before) value cell = placed_anew how test (Some owner.0) (wrote value) cell
restood how test (Add owner amount) value cell = placed_anew how test (Some owner.0) (added amount) cell
restood how test (Lasting amount) value cell = lasting amount cell

regrown : End → (ℕ → Bool) → Cell → List Record → ℤ → Cell
regrown how test cell [] value = cell
regrown how test cell (first ∷ later) value = regrown how test (restood how test first (base_of later value) cell) later value

ended_stood : (how : End) (test : ℕ → Bool) (one : Record) (value : ℤ) (cell : Cell) → ended how test (stood one value cell) ≡ restood how test one value (ended how test cell)
unfolding stood restood
ended_stood how test (Write owner before) value cell = ended_updated how test (Some owner.0) (wrote value) cell
ended_stood how test (Add owner amount) value cell = ended_updated how test (Some owner.0) (added amount) cell
ended_stood how test (Lasting amount) value cell = ended_lasting how test amount cell

ended_grown : (how : End) (test : ℕ → Bool) (cell : Cell) (records : List Record) (value : ℤ) → ended how test (grown cell records value) ≡ regrown how test (ended how test cell) records value
unfolding grown regrown
ended_grown how test cell [] value = refl
ended_grown how test cell (first ∷ later) value =
    ended_grown how test (stood first (base_of later value) cell) later value ∙ ap (λ (c : Cell). regrown how test c later value) (ended_stood how test first (base_of later value) cell)

regrown_append : (how : End) (test : ℕ → Bool) (cell : Cell) (front back : List Record) (value : ℤ) → regrown how test cell (front ++ back) value ≡ regrown how test (regrown how test cell front (base_of back value)) back value
unfolding regrown
regrown_append how test cell [] back value = refl
regrown_append how test cell (first ∷ front) back value =
    ap (λ (v : ℤ). regrown how test (restood how test first v cell) (front ++ back) value) (base_append front back value)
    ∙ regrown_append how test (restood how test first (base_of front (base_of back value)) cell) front back value

-- the records in two parts, once some have ended
ended_parts : (how : End) (test : ℕ → Bool) (front back : List Record) (value : ℤ)
    → ended how test (recorded_cell (front ++ back) value) ≡ regrown how test (regrown how test (fresh (base_of front (base_of back value))) front (base_of back value)) back value
unfolding recorded_cell
ended_parts how test front back value =
    ended_grown how test (fresh (base_of (front ++ back) value)) (front ++ back) value
    ∙ ap (λ (c : Cell). regrown how test c (front ++ back) value) (ended_fresh how test (base_of (front ++ back) value))
    ∙ regrown_append how test (fresh (base_of (front ++ back) value)) front back value
    ∙ ap (λ (v : ℤ). regrown how test (regrown how test (fresh v) front (base_of back value)) back value) (base_append front back value)

-- ---- a value is mended
-- the value in place, if no write found the value
unfoldable pub placed_value : Mend → List Record → ℤ → ℤ
placed_value mend later value = cond (has_write later) value (mended mend value)

base_set : (before : ℤ) (later : List Record) (value : ℤ) → base_of (mended_in (Set (summed before later)) later) (placed_value (Set (summed before later)) later value) ≡ word before
unfolding base_of mended_in summed placed_value has_write mended is_write below
base_set before [] value = refl
base_set before (Write owner found ∷ later) value = refl
base_set before (Add owner amount ∷ later) value = ap (λ (v : ℤ). word (v -ℤ amount)) (base_set (word (before +ℤ amount)) later value ∙ word_twice (before +ℤ amount)) ∙ more_less before amount
base_set before (Lasting amount ∷ later) value = ap (λ (v : ℤ). word (v -ℤ amount)) (base_set (word (before +ℤ amount)) later value ∙ word_twice (before +ℤ amount)) ∙ more_less before amount

base_less : (less : ℤ) (later : List Record) (value : ℤ) → base_of (mended_in (Less less) later) (placed_value (Less less) later value) ≡ word (base_of later value -ℤ less)
unfolding base_of mended_in placed_value has_write mended is_write below
base_less less [] value = word_twice (value -ℤ less) ∙ sym (less_word value less)
base_less less (Write owner found ∷ later) value = word_twice (found -ℤ less) ∙ sym (less_word found less)
base_less less (Add owner amount ∷ later) value = ap (λ (v : ℤ). word (v -ℤ amount)) (base_less less later value) ∙ plus_swap (base_of later value) (neg_ℤ less) (neg_ℤ amount)
base_less less (Lasting amount ∷ later) value = ap (λ (v : ℤ). word (v -ℤ amount)) (base_less less later value) ∙ plus_swap (base_of later value) (neg_ℤ less) (neg_ℤ amount)

-- the value over a record that goes is what was below it
base_mended : (gone : Record) (later : List Record) (value : ℤ) → base_of (mended_in (mend_of gone later) later) (placed_value (mend_of gone later) later value) ≡ below (base_of later value) gone
unfolding mend_by content_of below
base_mended (Write owner before) later value = base_set before later value
base_mended (Add owner amount) later value = base_less amount later value
base_mended (Lasting amount) later value = base_less amount later value

-- and the updates are what they were
regrown_mended : (how : End) (test : ℕ → Bool) (cell : Cell) (mend : Mend) (later : List Record) (value : ℤ) → regrown how test cell (mended_in mend later) (placed_value mend later value) ≡ regrown how test cell later value
unfolding regrown restood mended_in placed_value has_write is_write
regrown_mended how test cell mend [] value = refl
regrown_mended how test cell mend (Write owner found ∷ later) value = refl
regrown_mended how test cell mend (Add owner amount ∷ later) value = regrown_mended how test (placed_anew how test (Some owner.0) (added amount) cell) mend later value
regrown_mended how test cell mend (Lasting amount ∷ later) value = regrown_mended how test (lasting amount cell) mend later value

-- ---- a record is taken back
restood_undone : (test : ℕ → Bool) (one : Record) (value : ℤ) (cell : Cell) → owned test one ≡ true → restood Aborted test one value cell ≡ cell
unfolding restood placed_anew placed owned owner_of
restood_undone test (Write owner before) value cell is = rw is refl
restood_undone test (Add owner amount) value cell is = rw is refl
restood_undone test (Lasting amount) value cell is = absurd (true≢false (sym is))

pub undone_back : (test : ℕ → Bool) (older : List Record) (gone : Record) (later : List Record) (value : ℤ) → owned test gone ≡ true
    → undone test (recorded_cell (older ++ mended_in (mend_of gone later) later) (placed_value (mend_of gone later) later value)) ≡ undone test (recorded_cell (older ++ gone ∷ later) value)
unfolding regrown base_of
undone_back test older gone later value owner =
    ended_parts Aborted test older (mended_in (mend_of gone later) later) (placed_value (mend_of gone later) later value)
    ∙ (λ i. regrown Aborted test (regrown Aborted test (fresh (base_of older (base_mended gone later value i))) older (base_mended gone later value i)) (mended_in (mend_of gone later) later) (placed_value (mend_of gone later) later value))
    ∙ regrown_mended Aborted test (under gone) (mend_of gone later) later value
    ∙ sym (ap (λ (c : Cell). regrown Aborted test c later value) (restood_undone test gone (base_of later value) (under gone) owner))
    ∙ sym (ended_parts Aborted test older (gone ∷ later) value) where
      under : Record → Cell
      under one = regrown Aborted test (fresh (base_of older (below (base_of later value) one))) older (below (base_of later value) one)

-- ---- a record comes to stand for good
-- where no write stands, a raised value raises the base
base_raised : (d : ℤ) (records : List Record) (value : ℤ) → has_write records ≡ false → word value ≡ value → base_of records value ≡ word (base_of records (word (value -ℤ d)) +ℤ d)
unfolding base_of has_write is_write below
base_raised d [] value none is = is ∙ sym (ap (λ (v : ℤ). word (v +ℤ d)) (word_twice (value -ℤ d)) ∙ less_more value d is)
base_raised d (Write owner before ∷ later) value none is = absurd (true≢false none)
base_raised d (Add owner amount ∷ later) value none is = ap (λ (v : ℤ). word (v -ℤ amount)) (base_raised d later value none is) ∙ plus_swap (base_of later (word (value -ℤ d))) d (neg_ℤ amount)
base_raised d (Lasting amount ∷ later) value none is = ap (λ (v : ℤ). word (v -ℤ amount)) (base_raised d later value none is) ∙ plus_swap (base_of later (word (value -ℤ d))) d (neg_ℤ amount)

regrown_raised : (how : End) (test : ℕ → Bool) (d : ℤ) (plain more : Cell) (records : List Record) (v w : ℤ) → has_write records ≡ false → IsRaised d plain more → IsRaised d (regrown how test plain records v) (regrown how test more records w)
unfolding regrown restood has_write is_write
regrown_raised how test d plain more [] v w none same = same
regrown_raised how test d plain more (Write owner before ∷ later) v w none same = absurd (true≢false none)
regrown_raised how test d plain more (Add owner amount ∷ later) v w none same =
    regrown_raised how test d (placed_anew how test (Some owner.0) (added amount) plain) (placed_anew how test (Some owner.0) (added amount) more) later v w none (anew_raised how test d (Some owner.0) amount plain more same)
regrown_raised how test d plain more (Lasting amount ∷ later) v w none same =
    regrown_raised how test d (lasting amount plain) (lasting amount more) later v w none (lasting_raised d amount plain more same)

fresh_raised : (d base : ℤ) → IsRaised d (fresh base) (fresh (word (base +ℤ d)))
unfolding IsRaised has_wrote fresh raised
fresh_raised d base = (refl, refl)

restood_write : (test : ℕ → Bool) (owner : Txn) (before value : ℤ) (cell : Cell) → test owner.0 ≡ true → restood Committed test (Write owner before) value cell ≡ fresh value
unfolding restood placed_anew placed
restood_write test owner before value cell is = rw is refl

restood_add : (test : ℕ → Bool) (owner : Txn) (amount value : ℤ) (cell : Cell) → test owner.0 ≡ true → restood Committed test (Add owner amount) value cell ≡ lasting amount cell
unfolding restood placed_anew placed
restood_add test owner amount value cell is = rw is refl

pub settled_back : (test : ℕ → Bool) (lasts : Bool) (older : List Record) (gone : Record) (later : List Record) (value : ℤ) → owned test gone ≡ true → (lasts ≡ false → has_write older ≡ false)
    → settled test (recorded_cell (settled_on lasts gone older later) value) ≡ settled test (recorded_cell (older ++ gone ∷ later) value)
unfolding regrown restood base_of settled_on owned owner_of below IsRaised
settled_back test lasts older (Write owner before) later value is alone =
    ended_parts Committed test [] later value
    ∙ ap (λ (v : ℤ). regrown Committed test (fresh v) later value) (base_word later value)
    ∙ sym (ap (λ (c : Cell). regrown Committed test c later value) (restood_write test owner before (base_of later value) (regrown Committed test (fresh (base_of older (word before))) older (word before)) is))
    ∙ sym (ended_parts Committed test older (Write owner before ∷ later) value)
settled_back test lasts older (Lasting amount) later value is alone = absurd (true≢false (sym is))
settled_back test true older (Add owner amount) later value is alone =
    ended_parts Committed test older (Lasting amount ∷ later) value
    ∙ sym (ap (λ (c : Cell). regrown Committed test c later value) (restood_add test owner amount (base_of later value) (regrown Committed test (fresh (base_of older (word (base_of later value -ℤ amount)))) older (word (base_of later value -ℤ amount))) is))
    ∙ sym (ended_parts Committed test older (Add owner amount ∷ later) value)
settled_back test false older (Add owner amount) later value is alone =
    ended_parts Committed test older later value
    ∙ ap (λ (v : ℤ). regrown Committed test (regrown Committed test (fresh v) older (base_of later value)) later value) (base_raised amount older (base_of later value) (alone refl) (base_word later value))
    ∙ ap (λ (c : Cell). regrown Committed test c later value) (raise.1 ∙ sym (lasting_none amount under raise.0))
    ∙ sym (ap (λ (c : Cell). regrown Committed test c later value) (restood_add test owner amount (base_of later value) under is))
    ∙ sym (ended_parts Committed test older (Add owner amount ∷ later) value) where
      less : ℤ
      less = word (base_of later value -ℤ amount)

      under : Cell
      under = regrown Committed test (fresh (base_of older less)) older less

      raise : IsRaised amount under (regrown Committed test (fresh (word (base_of older less +ℤ amount))) older (base_of later value))
      raise = regrown_raised Committed test amount (fresh (base_of older less)) (fresh (word (base_of older less +ℤ amount))) older less (base_of later value) (alone refl) (fresh_raised amount (base_of older less))

-- ---- adds of nobody before all else are part of the base
pub cell_shed : (amounts : List ℤ) (later : List Record) (value : ℤ) → recorded_cell (map Lasting amounts ++ later) value ≡ recorded_cell later value
unfolding recorded_cell grown stood base_of below lasting has_wrote fresh
cell_shed [] later value = refl
cell_shed (d ∷ amounts) later value =
    ap (λ (c : Cell). grown c (map Lasting amounts ++ later) value) (raise ∙ ap fresh (less_more rest d (base_word (map Lasting amounts ++ later) value)))
    ∙ cell_shed amounts later value where
      rest : ℤ
      rest = base_of (map Lasting amounts ++ later) value

      raise : lasting d (fresh (word (rest -ℤ d))) ≡ fresh (word (word (rest -ℤ d) +ℤ d))
      raise = refl

-- ---- nothing is left
restood_none : (how : End) (test : ℕ → Bool) (one : Record) (value : ℤ) (cell : Cell) → owned test one ≡ false → restood how test one value cell ≡ stood one value cell
unfolding restood stood placed_anew placed owned owner_of
restood_none how test (Write owner before) value cell none = rw none refl
restood_none how test (Add owner amount) value cell none = rw none refl
restood_none how test (Lasting amount) value cell none = refl

regrown_none : (how : End) (test : ℕ → Bool) (cell : Cell) (records : List Record) (value : ℤ) → list_any (owned test) records ≡ false → regrown how test cell records value ≡ grown cell records value
unfolding regrown grown
regrown_none how test cell [] value none = refl
regrown_none how test cell (first ∷ later) value none =
    let parts = or_parts (owned test first) (list_any (owned test) later) none in
    ap (λ (c : Cell). regrown how test c later value) (restood_none how test first (base_of later value) cell parts.0)
    ∙ regrown_none how test (stood first (base_of later value) cell) later value parts.1

pub ended_none : (how : End) (test : ℕ → Bool) (records : List Record) (value : ℤ) → list_any (owned test) records ≡ false → ended how test (recorded_cell records value) ≡ recorded_cell records value
unfolding recorded_cell
ended_none how test records value none =
    ended_grown how test (fresh (base_of records value)) records value
    ∙ ap (λ (c : Cell). regrown how test c records value) (ended_fresh how test (base_of records value))
    ∙ regrown_none how test (fresh (base_of records value)) records value none

-- ---- what an object shows is what is in place
shown_stood : (one : Record) (value : ℤ) (cell : Cell) → word value ≡ value → shown cell ≡ below value one → shown (stood one value cell) ≡ value
unfolding stood shown updated shown_over after below
shown_stood (Write owner before) value cell is shows = refl
shown_stood (Add owner amount) value cell is shows = ap (λ (v : ℤ). word (v +ℤ amount)) shows ∙ less_more value amount is
shown_stood (Lasting amount) value cell is shows = shown_lasting amount cell ∙ ap (λ (v : ℤ). word (v +ℤ amount)) shows ∙ less_more value amount is

shown_grown : (cell : Cell) (records : List Record) (value : ℤ) → shown cell ≡ base_of records value → shown (grown cell records value) ≡ word value
unfolding grown base_of
shown_grown cell [] value shows = shows
shown_grown cell (first ∷ later) value shows = shown_grown (stood first (base_of later value) cell) later value (shown_stood first (base_of later value) cell (base_word later value) shows)

pub shown_in_place : (records : List Record) (value : ℤ) → shown (recorded_cell records value) ≡ word value
unfolding recorded_cell shown fresh shown_over
shown_in_place records value = shown_grown (fresh (base_of records value)) records value refl

-- ---- how many there are
-- how many records of those who pass the test are in a list
unfoldable pub owned_by : (ℕ → Bool) → List Record → ℕ
owned_by test records = count_by (owned test) records

count_stood : (test : ℕ → Bool) (one : Record) (value : ℤ) (cell : Cell) → updates_in test (stood one value cell) ≡ cond (owned test one) 1 0 + updates_in test cell
unfolding stood owned owner_of
count_stood test (Write owner before) value cell = count_updated test (Some owner.0) (wrote value) cell
count_stood test (Add owner amount) value cell = count_updated test (Some owner.0) (added amount) cell
count_stood test (Lasting amount) value cell = omega (arith, count_lasting test amount cell)

count_grown : (test : ℕ → Bool) (cell : Cell) (records : List Record) (value : ℤ) → updates_in test (grown cell records value) ≡ owned_by test records + updates_in test cell
unfolding grown owned_by
count_grown test cell [] value = omega arith
count_grown test cell (first ∷ later) value =
    omega (arith, count_grown test (stood first (base_of later value) cell) later value, count_stood test first (base_of later value) cell, sum_by-cons (λ (one : Record). cond {A = ℕ} (owned test one) 1 0) first later)

pub updates_count : (test : ℕ → Bool) (records : List Record) (value : ℤ) → updates_in test (recorded_cell records value) ≡ owned_by test records
unfolding recorded_cell updates_in fresh
updates_count test records value = count_grown test (fresh (base_of records value)) records value ∙ omega arith

owned_append : (test : ℕ → Bool) (older rest : List Record) → owned_by test (older ++ rest) ≡ owned_by test older + owned_by test rest
unfolding owned_by
owned_append test older rest = sum_by-append (λ (one : Record). cond (owned test one) 1 0) older rest

owned_more : (test : ℕ → Bool) (first : Record) (later : List Record) → owned_by test (first ∷ later) ≡ cond (owned test first) 1 0 + owned_by test later
unfolding owned_by
owned_more test first later = sum_by-cons (λ (one : Record). cond {A = ℕ} (owned test one) 1 0) first later

owned_mended : (test : ℕ → Bool) (mend : Mend) (later : List Record) → owned_by test (mended_in mend later) ≡ owned_by test later
unfolding mended_in owned owner_of
owned_mended test mend [] = refl
owned_mended test mend (Write owner before ∷ later) = owned_more test (Write owner (mended mend before)) later ∙ sym (owned_more test (Write owner before) later)
owned_mended test mend (Add owner amount ∷ later) = owned_more test (Add owner amount) (mended_in mend later) ∙ ap (λ (n : ℕ). cond (test owner.0) 1 0 + n) (owned_mended test mend later) ∙ sym (owned_more test (Add owner amount) later)
owned_mended test mend (Lasting amount ∷ later) = omega (arith, owned_more test (Lasting amount) (mended_in mend later), owned_mended test mend later, owned_more test (Lasting amount) later)

pub count_back : (test : ℕ → Bool) (older : List Record) (gone : Record) (mend : Mend) (later : List Record) → owned test gone ≡ true → owned_by test (older ++ mended_in mend later) + 1 ≡ owned_by test (older ++ gone ∷ later)
count_back test older gone mend later owner =
    omega (arith, owned_append test older (mended_in mend later), owned_append test older (gone ∷ later), owned_mended test mend later, owned_more test gone later, ap (λ (b : Bool). cond {A = ℕ} b 1 0) owner)

owned_here : (older : List Record) → count_by (owned (λ (n : ℕ). true)) older ≡ owned_by (λ n. true) older
unfolding owned_by
owned_here older = refl

-- what comes to stand for good is nobody's
pub count_settled : (lasts : Bool) (older : List Record) (gone : Record) (later : List Record) → owned_by (λ n. true) (settled_on lasts gone older later) + settled_many gone older ≡ owned_by (λ n. true) (older ++ gone ∷ later)
unfolding settled_on settled_many owned owner_of
count_settled lasts older (Write owner before) later =
    omega (arith, owned_append (λ n. true) older (Write owner before ∷ later), owned_more (λ n. true) (Write owner before) later, owned_here older)
count_settled true older (Add owner amount) later =
    omega (arith, owned_append (λ n. true) older (Lasting amount ∷ later), owned_more (λ n. true) (Lasting amount) later, owned_append (λ n. true) older (Add owner amount ∷ later), owned_more (λ n. true) (Add owner amount) later)
count_settled false older (Add owner amount) later =
    omega (arith, owned_append (λ n. true) older later, owned_append (λ n. true) older (Add owner amount ∷ later), owned_more (λ n. true) (Add owner amount) later)
count_settled lasts older (Lasting amount) later = omega arith

pub count_settled_of : (test : ℕ → Bool) (lasts : Bool) (older : List Record) (gone : Record) (later : List Record) → owned test gone ≡ true → owned_by test (settled_on lasts gone older later) < owned_by test (older ++ gone ∷ later)
unfolding settled_on owned owner_of
count_settled_of test lasts older (Write owner before) later is =
    omega (arith, owned_append test older (Write owner before ∷ later), owned_more test (Write owner before) later, ap (λ (b : Bool). cond {A = ℕ} b 1 0) is)
count_settled_of test true older (Add owner amount) later is =
    omega (arith, owned_append test older (Lasting amount ∷ later), owned_more test (Lasting amount) later, owned_append test older (Add owner amount ∷ later), owned_more test (Add owner amount) later, ap (λ (b : Bool). cond {A = ℕ} b 1 0) is)
count_settled_of test false older (Add owner amount) later is =
    omega (arith, owned_append test older later, owned_append test older (Add owner amount ∷ later), owned_more test (Add owner amount) later, ap (λ (b : Bool). cond {A = ℕ} b 1 0) is)
count_settled_of test lasts older (Lasting amount) later is = absurd (true≢false (sym is))

pub count_shed : (test : ℕ → Bool) (amounts : List ℤ) (later : List Record) → owned_by test (map Lasting amounts ++ later) ≡ owned_by test later
unfolding owned owner_of
count_shed test [] later = refl
count_shed test (d ∷ amounts) later = omega (arith, owned_more test (Lasting d) (map Lasting amounts ++ later), count_shed test amounts later)
