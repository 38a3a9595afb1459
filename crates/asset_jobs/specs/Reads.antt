-- What reading a job script comes to.
use Rattle.std.specs.Prelude.{◌≡◌, ℕ, true, List, Option, Result, Err}
use Rattle.asset_scripts.specs.Device.{DeviceState}
use Rattle.asset_scripts.specs.Transfers.{IsReadFault, TookPrefix}
use Rattle.asset_scripts.specs.Runs.{GaveAll}
use Rattle.asset_scripts.specs.declared.faults.ScriptFault.{ScriptFault}
use Rattle.asset_scripts.specs.declared.faults.ScriptFault.TheVariants as ScriptFault'
use Rattle.asset_jobs.specs.declared.faults.JobsFault.{JobsFault}
use Rattle.asset_jobs.specs.declared.faults.JobsFault.TheVariants.{BadLine, Read, NoMemory}
use Rattle.asset_jobs.specs.Jobs.{Script, jobs_of}

-- the reader gave bytes up to its end, and this is what all of them say
pub record GaveScript {R : Type 0} (remaining : R → Option (List ℕ)) (old new : DeviceState R) (said : Result Script ℕ) : Type 0 where
  pub bytes : List ℕ
  pub all : GaveAll remaining old new bytes
  pub says : jobs_of bytes ≡ said

-- why no script was read: the first bad line of all that the reader gave, a fault of the reader, or memory ran out
unfoldable pub FailsToRead : {R : Type 0} → (R → Option (List ℕ)) → DeviceState R → DeviceState R → JobsFault → Type 0
FailsToRead remaining old new (BadLine n) = GaveScript remaining old new (Err n)
FailsToRead remaining old new Read = IsReadFault remaining old new
FailsToRead remaining old new NoMemory = Unit {0}

-- why bytes say no script: their first bad line, or memory ran out
unfoldable pub FailsToSay : List ℕ → JobsFault → Type 0
FailsToSay bytes (BadLine n) = jobs_of bytes ≡ Err n
FailsToSay bytes Read = ⊥
FailsToSay bytes NoMemory = Unit {0}

-- why a text was not written: the writer failed after a prefix of it, or memory ran out before the writer was asked
unfoldable pub FailsToWrite : {W : Type 0} → (W → Option (List ℕ)) → DeviceState W → DeviceState W → List ℕ → ScriptFault → Type 0
FailsToWrite contents old new text ScriptFault'.Write = TookPrefix contents old new text × (new.failed ≡ true)
FailsToWrite contents old new text ScriptFault'.NoMemory = new ≡ old
FailsToWrite contents old new text ScriptFault'.Read = ⊥
