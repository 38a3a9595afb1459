-- What becomes of the value over a record when it goes, by keys.
use Rattle.std.specs.Prelude.{ℕ, ℤ, ◌==◌, cond, List, [], ◌∷◌, Option, Some, None, option_map}
use Rattle.slab.specs.Slab.{Slab, get}
use Rattle.asset_records.specs.declared.mending.Mend.{Mend}
use Rattle.asset_records.specs.declared.records.Record.{Record}
use Rattle.asset_records.specs.declared.records.Record.TheVariants.{Write, Add, Lasting}
use Rattle.asset_records.specs.Listed.{record_at}
use Rattle.asset_records.specs.Mended.{is_write, mended_record}

-- what a record added, if there is one and it is that of an add
unfoldable pub added_by : Option Record → Option ℤ
added_by None = None
added_by (Some (Write owner before)) = None
added_by (Some (Add owner amount)) = Some amount
added_by (Some (Lasting amount)) = Some amount

-- what the record at a key added, if there is one and it is that of an add
abbrev pub added_at : Slab Record → ℕ → Option ℤ
added_at records k = added_by (get records k)

-- the first of the keys at which there is a write
abbrev pub first_write : Slab Record → List ℕ → Option ℕ
first_write records [] = None
first_write records (k ∷ keys) = cond (is_write (record_at records k)) (Some k) (first_write records keys)

-- the record at a key, after the value was mended that the write at `next`, if there is one, found
unfoldable pub mended_at : Slab Record → Option ℕ → Mend → ℕ → Option Record
mended_at records None mend k = get records k
mended_at records (Some next) mend k = cond (k == next) (option_map (mended_record mend) (get records k)) (get records k)

-- what is left to mend, if no write found the value
unfoldable pub left_to_mend : Option ℕ → Mend → Option Mend
left_to_mend None mend = Some mend
left_to_mend (Some next) mend = None
