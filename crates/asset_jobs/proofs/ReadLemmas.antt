-- Why no script was read, and why a text was not written.
use Rattle.std.proofs.Common.{◌≡◌, ℕ, true, List, Ok, Err}
use Rattle.std.specs.Prelude.{Option, Result, IfErr, OnErr}
use Rattle.asset_scripts.specs.Device.{DeviceState}
use Rattle.asset_scripts.specs.Transfers.{TookPrefix}
use Rattle.asset_scripts.specs.Runs.{GaveAll}
use Rattle.asset_scripts.specs.declared.faults.ScriptFault.{ScriptFault}
use Rattle.asset_scripts.specs.declared.faults.ScriptFault.TheVariants as ScriptFault'
use Rattle.asset_jobs.specs.declared.faults.JobsFault.{JobsFault}
use Rattle.asset_jobs.specs.declared.faults.JobsFault.TheVariants.{BadLine, Read, NoMemory}
use Rattle.asset_jobs.specs.declared.scripts.JobScript.{JobScript}
use Rattle.asset_jobs.specs.Reads.{FailsToRead, FailsToSay, FailsToWrite}

-- all bytes were read, and say no script
pub fails_to_say : {R : Type 0} (remaining : R → Option (List ℕ)) (old new : DeviceState R) (bytes : List ℕ) (said : Result JobScript JobsFault) → GaveAll remaining old new bytes → IfErr said (FailsToSay bytes)
    → IfErr said (FailsToRead remaining old new)
unfolding FailsToRead FailsToSay
fails_to_say remaining old new bytes (Ok script) all fails = tt
fails_to_say remaining old new bytes (Err (BadLine n)) all fails = record { bytes = bytes; all = all; says = fails }
fails_to_say remaining old new bytes (Err Read) all fails = absurd fails
fails_to_say remaining old new bytes (Err NoMemory) all fails = tt

-- the writer failed
pub fails_to_write : {W : Type 0} (contents : W → Option (List ℕ)) (old new : DeviceState W) (text : List ℕ) (wrote : Result Unit ScriptFault) → OnErr wrote (TookPrefix contents old new text) → OnErr wrote (new.failed ≡ true)
    → IfErr wrote (λ fault. fault ≡ ScriptFault'.Write) → IfErr wrote (FailsToWrite contents old new text)
unfolding FailsToWrite
fails_to_write contents old new text (Ok u) prefix failed writes = tt
fails_to_write contents old new text (Err fault) prefix failed writes = rw writes (prefix, failed)
