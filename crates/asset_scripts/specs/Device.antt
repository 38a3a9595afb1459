-- What a contract sees of a device.
use Rattle.std.specs.Prelude.{◌≡◌, ℕ, ◌+◌, ◌-◌, ◌^◌, min, Bool, false, refl}
use Rattle.std.specs.Coded.{Coded, code_by, coded×, coded_ℕ, coded_bool}

-- the reader or the writer, whether a call of it failed, how many calls were made, and how many bytes they moved
pub record DeviceState (D : Type 0) : Type 0 where
  pub inner : D
  pub failed : Bool
  pub asked : ℕ
  pub moved : ℕ

-- a state is stored as its fields in a row
abbrev pub device_code : {D : Type 0} → Coded D → Coded (DeviceState D)
device_code {D = D} code =
    code_by (D × (Bool × (ℕ × ℕ))) (coded× code (coded× coded_bool (coded× coded_ℕ coded_ℕ)))
    (λ d. (d.inner, (d.failed, (d.asked, d.moved))))
    (λ p. record { inner = p.0; failed = p.1.0; asked = p.1.1.0; moved = p.1.1.1 })
    (λ _. refl)

-- the device was asked nothing, and so nothing failed
pub record IsUnused {D : Type 0} (d : DeviceState D) : Type 0 where
  pub failed : d.failed ≡ false
  pub asked : d.asked ≡ 0

-- a count after n more, which stays at the greatest value of a u64
unfoldable pub counted : ℕ → ℕ → ℕ
counted count n = min (count + n) (2 ^ 64 - 1)
