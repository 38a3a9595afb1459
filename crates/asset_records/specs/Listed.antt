-- The records of each object, each in the row of its object and in a column: that of its owner's seat, or the first one if
-- it is nobody's.
use Rattle.std.specs.Prelude.{◌≡◌, ℕ, ℤ, pos, zero, suc, ◌+◌, ◌*◌, ◌≤◌, ◌<◌, Bool, false, true, not, cond, ◌==◌, List, [], ◌∷◌, ◌++◌, length, map, Option, Some, None, option_map, is_some, unwrap_or, slice_index_or}
use Rattle.std.specs.List.{list_any, count_by, sum_by}
use Rattle.slab.specs.Slab.{Slab, get, slab_len}
use Rattle.asset_chains.specs.Chained.{chain_of, home_of, last_of}
use Rattle.asset_chains.specs.Crossed.{Crossed, Joins}
use Rattle.asset_names.specs.declared.names.Txn.{Txn}
use Rattle.asset_records.specs.declared.mending.Mend.{Mend}
use Rattle.asset_records.specs.declared.records.Change.{Change}
use Rattle.asset_records.specs.declared.records.Change.TheVariants.{Wrote, Added}
use Rattle.asset_records.specs.declared.records.Record.{Record}
use Rattle.asset_records.specs.declared.records.Record.TheVariants.{Write, Add, Lasting}
use Rattle.asset_records.specs.Mended.{has_write, mend_of, mended_in}
use Rattle.asset_seats.specs.Seated.{Seated, seat}

-- the records of an object; none past the last object
unfoldable pub on : List (List Record) → ℕ → List Record
on lists i = slice_index_or lists i []

-- whose a record is; an add that stands for good is nobody's
unfoldable pub owner_of : Record → Option Txn
owner_of (Write owner before) = Some owner
owner_of (Add owner amount) = Some owner
owner_of (Lasting amount) = None

-- a record, if there is none at a key
unfoldable pub no_record : Record
no_record = Lasting (pos 0)

-- the record at a key
unfoldable pub record_at : Slab Record → ℕ → Record
record_at records k = unwrap_or (get records k) no_record

-- the records at these keys
unfoldable pub at_keys : Slab Record → List ℕ → List Record
at_keys records keys = map (record_at records) keys

-- the records of each object, oldest first: those at the keys of its row
abbrev pub lists_in : Crossed Record → List (List Record)
lists_in records = map (at_keys records.items) records.rows.chains

-- the record of a change
unfoldable pub record_of : Txn → Change → Record
record_of owner (Wrote before) = Write owner before
record_of owner (Added amount) = Add owner amount

-- the column of a seat
abbrev pub seat_column : ℕ → ℕ
seat_column c = suc c

-- whoever has a seat, if anybody has it
abbrev pub somebody : Option Txn → Option (Option Txn)
somebody None = None
somebody (Some owner) = Some (Some owner)

-- whose the records are in the column that is a record's home, if it has one: nobody's in the first, and in another those of
-- whoever has its seat
unfoldable pub owner_at : Seated → Option ℕ → Option (Option Txn)
owner_at seats None = None
owner_at seats (Some zero) = Some None
owner_at seats (Some (suc c)) = somebody (seat seats c)

-- each record is in the column of its owner's seat, or in the first one if it is nobody's, and each seat that is taken has its
-- column
pub record IsTied (records : Crossed Record) (seats : Seated) : Type 0 where
  pub owned : (k : ℕ) → option_map owner_of (get records.items k) ≡ owner_at seats (home_of records.columns k)
  pub within : (c : ℕ) → is_some (seat seats c) ≡ true → seat_column c < length records.columns.chains

-- there is no record more, and no column less
pub record IsNoMore (old new : Crossed Record) : Type 0 where
  pub items : slab_len new.items ≤ slab_len old.items
  pub columns : length old.columns.chains ≤ length new.columns.chains

-- whether somebody passes the test; nobody does not
abbrev pub owner_passes : (ℕ → Bool) → Option Txn → Bool
owner_passes test None = false
owner_passes test (Some owner) = test owner.0

-- whether the record is that of one who passes the test
unfoldable pub is_owned : (ℕ → Bool) → Record → Bool
is_owned test one = owner_passes test (owner_of one)

-- whether the record is the transaction's
abbrev pub is_of : ℕ → Record → Bool
is_of t = is_owned (λ (n : ℕ). n == t)

-- one object's records change, and no others
unfoldable pub ChangesOn : ℕ → List Record → List (List Record) → List (List Record) → Type 0
ChangesOn i records old new = (length new ≡ length old) × ((j : ℕ) → on new j ≡ cond (i == j) records (on old j))

-- a record comes last in a column, at a key that had none
pub record ComesLast (column : ℕ) (one : Record) (old new : Crossed Record) : Type 0 where
  pub key : ℕ
  pub vacant : get old.items key ≡ None
  pub there : get new.items key ≡ Some one
  pub joins : Joins column key old.columns new.columns

-- the last record of a column, which is one on object i, is gone
pub record LosesLast (column i : ℕ) (old new : Crossed Record) : Type 0 where
  pub key : ℕ
  pub last : last_of (chain_of old.columns column) ≡ Some key
  pub on_object : home_of old.rows key ≡ Some i
  pub gone : get new.items key ≡ None

-- One record of the transaction's is gone from an object. If a write stands after it, the first one finds the mended value, and
-- nothing is left to mend. Otherwise `restored` says how the value in place is to be mended.
pub record TakesBack (t : ℕ) (i : ℕ) (restored : Option Mend) (old new : List (List Record)) : Type 0 where
  pub older : List Record
  pub gone : Record
  pub later : List Record
  pub stood : on old i ≡ older ++ gone ∷ later
  pub owner : is_of t gone ≡ true
  pub restores : restored ≡ cond (has_write later) None (Some (mend_of gone later))
  pub changes : ChangesOn i (older ++ mended_in (mend_of gone later) later) old new

-- The records of an object once one of them stands for good: a write goes with all before it; an add becomes nobody's, if it
-- lasts, or else goes.
unfoldable pub settled_on : Bool → Record → List Record → List Record → List Record
settled_on lasts (Write owner before) older later = later
settled_on true (Add owner amount) older later = older ++ Lasting amount ∷ later
settled_on false (Add owner amount) older later = older ++ later
settled_on lasts (Lasting amount) older later = older ++ Lasting amount ∷ later

-- how many records of somebody go, or become nobody's, when one of them stands for good
unfoldable pub settled_many : Record → List Record → ℕ
settled_many (Write owner before) older = 1 + count_by (is_owned (λ (n : ℕ). true)) older
settled_many (Add owner amount) older = 1
settled_many (Lasting amount) older = 0

-- One record of the transaction's stands for good. If a write stands before it, an add becomes nobody's and does not go. The
-- records visited are at least as many as those of somebody that go or become nobody's, and at most four times as many.
pub record Settles (t : ℕ) (object visited : ℕ) (old new : List (List Record)) : Type 0 where
  pub older : List Record
  pub gone : Record
  pub later : List Record
  pub lasts : Bool
  pub stood : on old object ≡ older ++ gone ∷ later
  pub owner : is_of t gone ≡ true
  pub alone : lasts ≡ false → has_write older ≡ false
  pub changes : ChangesOn object (settled_on lasts gone older later) old new
  pub counted : settled_many gone older ≤ visited
  pub bound : visited ≤ 4 * settled_many gone older

-- adds of nobody that stand before all else are gone from an object
pub record Sheds (object : ℕ) (old new : List (List Record)) : Type 0 where
  pub amounts : List ℤ
  pub later : List Record
  pub stood : on old object ≡ map Lasting amounts ++ later
  pub changes : ChangesOn object later old new

-- whether the oldest of the records is an add of nobody
unfoldable pub begins_with_nobodys : List Record → Bool
begins_with_nobodys [] = false
begins_with_nobodys (one ∷ later) = not (is_owned (λ (n : ℕ). true) one)

-- the transaction has no record
unfoldable pub HasNone : ℕ → List (List Record) → Type 0
HasNone t lists = (j : ℕ) → list_any (is_of t) (on lists j) ≡ false

-- how many records of those who pass the test stand
unfoldable pub records_by : (ℕ → Bool) → List (List Record) → ℕ
records_by test lists = sum_by (λ (records : List Record). count_by (is_owned test) records) lists
