-- What becomes of the value over a record that goes. A write keeps what it found, so that its going is mended in the first
-- write after it, or else in the value in place; so is the going of an add.
use Rattle.std.specs.Prelude.{ℤ, Bool, true, false, ◌+ℤ◌, ◌-ℤ◌, List, [], ◌∷◌}
use Rattle.std.specs.List.{list_any}
use Rattle.std.specs.Int.{w64, int_wrap}
use Rattle.asset_records.specs.declared.mending.Mend.{Mend}
use Rattle.asset_records.specs.declared.mending.Mend.TheVariants.{Set, Less}
use Rattle.asset_records.specs.declared.records.Record.{Record}
use Rattle.asset_records.specs.declared.records.Record.TheVariants.{Write, Add, Lasting}

-- whether the record is that of a write
unfoldable pub is_write : Record → Bool
is_write (Write owner before) = true
is_write (Add owner amount) = false
is_write (Lasting amount) = false

-- whether a write is among the records
unfoldable pub has_write : List Record → Bool
has_write records = list_any is_write records

-- a value once it is mended
unfoldable pub mended : Mend → ℤ → ℤ
mended (Set value) old = value
mended (Less amount) old = int_wrap w64 (old -ℤ amount)

-- the record, which finds the mended value if it is a write
unfoldable pub mended_record : Mend → Record → Record
mended_record mend (Write owner before) = Write owner (mended mend before)
mended_record mend (Add owner amount) = Add owner amount
mended_record mend (Lasting amount) = Lasting amount

-- the records, the first write among which finds the mended value
unfoldable pub mended_in : Mend → List Record → List Record
mended_in mend [] = []
mended_in mend (Write owner before ∷ later) = Write owner (mended mend before) ∷ later
mended_in mend (Add owner amount ∷ later) = Add owner amount ∷ mended_in mend later
mended_in mend (Lasting amount ∷ later) = Lasting amount ∷ mended_in mend later

-- the value with the adds among the records up to the first write
unfoldable pub summed : ℤ → List Record → ℤ
summed value [] = value
summed value (Write owner before ∷ later) = value
summed value (Add owner amount ∷ later) = summed (int_wrap w64 (value +ℤ amount)) later
summed value (Lasting amount ∷ later) = summed (int_wrap w64 (value +ℤ amount)) later

-- the content of a record: what a write found, or the amount of an add
unfoldable pub content_of : Record → ℤ
content_of (Write owner before) = before
content_of (Add owner amount) = amount
content_of (Lasting amount) = amount

-- how the value over a record is mended when it goes: after a write it is this value, after an add that much less
unfoldable pub mend_by : Record → ℤ → Mend
mend_by (Write owner before) value = Set value
mend_by (Add owner amount) value = Less amount
mend_by (Lasting amount) value = Less amount

-- how the value over a record is mended when it goes, where these stand after it: after a write it is what the write found, with
-- the adds since
abbrev pub mend_of : Record → List Record → Mend
mend_of one later = mend_by one (summed (content_of one) later)
