-- Why a run stops: while it reads, renders or writes.
use Rattle.std.proofs.Common.{◌≡◌, ℕ, true, List, refl}
use Rattle.std.specs.Prelude.{Option}
use Rattle.asset_scripts.specs.declared.faults.ScriptFault.{ScriptFault}
use Rattle.asset_scripts.specs.declared.faults.ScriptFault.TheVariants.{Read, Write, NoMemory}
use Rattle.asset_scripts.specs.Device.{DeviceState}
use Rattle.asset_scripts.specs.Transfers.{IsReadFault, TookPrefix}
use Rattle.asset_scripts.specs.Transcript.{Transcript}
use Rattle.asset_scripts.specs.Runs.{GaveAll, Stops}

pub stops_reading : {R W : Type 0} (remaining : R → Option (List ℕ)) (contents : W → Option (List ℕ)) (render : List ℕ → Transcript) (input input' : DeviceState R) (output : DeviceState W) (fault : ScriptFault)
    → (fault ≡ Read → IsReadFault remaining input input') → (fault ≡ Write → ⊥) → Stops remaining contents render input input' output output fault
unfolding Stops
stops_reading remaining contents render input input' output Read read write = (read refl, refl)
stops_reading remaining contents render input input' output Write read write = absurd (write refl)
stops_reading remaining contents render input input' output NoMemory read write = refl

pub stops_rendering : {R W : Type 0} (remaining : R → Option (List ℕ)) (contents : W → Option (List ℕ)) (render : List ℕ → Transcript) (input input' : DeviceState R) (output : DeviceState W) → Stops remaining contents render input input' output output NoMemory
unfolding Stops
stops_rendering remaining contents render input input' output = refl

pub stops_writing : {R W : Type 0} (remaining : R → Option (List ℕ)) (contents : W → Option (List ℕ)) (render : List ℕ → Transcript) (input input' : DeviceState R) (output output' : DeviceState W) (bytes : List ℕ)
    → GaveAll remaining input input' bytes → TookPrefix contents output output' (render bytes).text → output'.failed ≡ true → Stops remaining contents render input input' output output' Write
unfolding Stops
stops_writing remaining contents render input input' output output' bytes all prefix failed = record { bytes = bytes; all = all; prefix = prefix; failed = failed }
