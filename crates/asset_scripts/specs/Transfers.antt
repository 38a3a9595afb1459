-- What reading a whole input and writing a whole text come to.
use Rattle.std.specs.Prelude.{◌≡◌, ℕ, ◌<◌, ◌⊎◌, true, List, ◌++◌, length, Option, IfSome}
use Rattle.std.specs.Io.KnownBytes.{Appends}
use Rattle.asset_scripts.specs.Device.{DeviceState}

-- the most bytes that an input may have
abbrev pub input_limit : ℕ
input_limit = 67108864

-- the most requests in which an input is read
abbrev pub request_limit : ℕ
request_limit = 134217728

-- a reader that was unused gave more bytes than an input may have, and so had more left before, if that is known
pub record GaveTooMuch {D : Type 0} (remaining : D → Option (List ℕ)) (old new : DeviceState D) : Type 0 where
  pub moved : input_limit < new.moved
  pub had : IfSome (remaining old.inner) (λ bytes. input_limit < length bytes)

-- a reader that was unused failed, gave too much, or was asked as often as is allowed
unfoldable pub IsReadFault : {D : Type 0} → (D → Option (List ℕ)) → DeviceState D → DeviceState D → Type 0
IsReadFault remaining old new = (new.failed ≡ true) ⊎ (GaveTooMuch remaining old new ⊎ (new.asked ≡ request_limit))

-- a writer took a prefix of the text, and nothing else
unfoldable pub TookPrefix : {D : Type 0} → (D → Option (List ℕ)) → DeviceState D → DeviceState D → List ℕ → Type 0
TookPrefix contents old new text =
    (prefix : List ℕ) × (rest : List ℕ) × (text ≡ prefix ++ rest) × Appends (contents old.inner) (contents new.inner) prefix
