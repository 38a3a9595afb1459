-- What a run of a script comes to.
use Rattle.std.specs.Prelude.{◌≡◌, ℕ, ◌≤◌, true, false, List, length, Option}
use Rattle.std.specs.Io.KnownBytes.{Consumes, IsAtEnd, Appends}
use Rattle.asset_scripts.specs.declared.faults.ScriptFault.{ScriptFault}
use Rattle.asset_scripts.specs.declared.faults.ScriptFault.TheVariants.{Read, Write, NoMemory}
use Rattle.asset_scripts.specs.declared.ends.RunEnd.{RunEnd}
use Rattle.asset_scripts.specs.Device.{DeviceState}
use Rattle.asset_scripts.specs.Transfers.{IsReadFault, TookPrefix, input_limit}
use Rattle.asset_scripts.specs.Transcript.{Transcript}

-- these are all the bytes that the reader gave, up to its end; they are within the limit, no call of the reader failed so far,
-- and the device counts them
pub record GaveAll {R : Type 0} (remaining : R → Option (List ℕ)) (old new : DeviceState R) (bytes : List ℕ) : Type 0 where
  pub gave : Consumes (remaining old.inner) (remaining new.inner) bytes
  pub end : IsAtEnd (remaining new.inner)
  pub limit : length bytes ≤ input_limit
  pub sound : new.failed ≡ false
  pub counted : new.moved ≡ length bytes

-- the writer took the text that the bytes give, and nothing else, and no call of it failed
pub record WroteAll {R W : Type 0} (remaining : R → Option (List ℕ)) (contents : W → Option (List ℕ)) (render : List ℕ → Transcript) (input input' : DeviceState R) (output output' : DeviceState W) (end : RunEnd) : Type 0 where
  pub bytes : List ℕ
  pub all : GaveAll remaining input input' bytes
  pub wrote : Appends (contents output.inner) (contents output'.inner) (render bytes).text
  pub ends : end ≡ (render bytes).end
  pub sound : output'.failed ≡ false

-- the writer took a prefix of the text that the bytes give, and failed
pub record WrotePrefix {R W : Type 0} (remaining : R → Option (List ℕ)) (contents : W → Option (List ℕ)) (render : List ℕ → Transcript) (input input' : DeviceState R) (output output' : DeviceState W) : Type 0 where
  pub bytes : List ℕ
  pub all : GaveAll remaining input input' bytes
  pub prefix : TookPrefix contents output output' (render bytes).text
  pub failed : output'.failed ≡ true

-- why a run stopped: the writer was not asked if the reader is at fault or memory ran out
unfoldable pub Stops : {R W : Type 0} → (R → Option (List ℕ)) → (W → Option (List ℕ)) → (List ℕ → Transcript) → DeviceState R → DeviceState R → DeviceState W → DeviceState W → ScriptFault → Type 0
Stops remaining contents render input input' output output' Read = IsReadFault remaining input input' × (output' ≡ output)
Stops remaining contents render input input' output output' Write = WrotePrefix remaining contents render input input' output output'
Stops remaining contents render input input' output output' NoMemory = output' ≡ output
