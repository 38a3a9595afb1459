-- What a run of the program comes to.
use Rattle.std.specs.Prelude.{◌≡◌, ◌⊎◌, ℕ, true, List, Option, MatchOption, Result, MatchResult, string_bytes}
use Rattle.std.specs.Io.KnownBytes.{Appends}
use Rattle.asset_scripts.specs.declared.ends.RunEnd.{RunEnd}
use Rattle.asset_scripts.specs.declared.faults.ScriptFault.{ScriptFault}
use Rattle.asset_scripts.specs.Device.{DeviceState}
use Rattle.asset_scripts.specs.Transfers.{TookPrefix}
use Rattle.asset_cli.specs.Reporting.{transcript_of}
use Rattle.asset_scripts.specs.Runs.{WroteAll, Stops}
use Rattle.asset_scripts.specs.Transcript.{Transcript}
use Rattle.asset_check.specs.Checked.{checked}
use Rattle.asset_standing.specs.Waited.{waited}
use Rattle.asset_requests.specs.declared.requests.Request.{Request}
use Rattle.asset_requests.specs.declared.requests.Task.{Task}
use Rattle.asset_requests.specs.declared.requests.Task.TheVariants.{Run, Waits}
use Rattle.asset_requests.specs.declared.answers.Answer.{Answer}
use Rattle.asset_requests.specs.declared.answers.Answer.TheVariants.{Help, Refusal, Fault}
use Rattle.asset_requests.specs.Limits.{capacity_of}
use Rattle.asset_program.specs.Exit.{run_status}

-- what each task gives of the bytes of a script
unfoldable pub given_by : Task → List ℕ → ℕ → Transcript
given_by (Run work) bytes capacity = transcript_of work bytes capacity
given_by Waits bytes capacity = waited bytes capacity

module _ {R W : Type 0} (remaining : R → Option (List ℕ)) (contents : W → Option (List ℕ)) where
  -- A script was read. The status says how that ended; what was written is what all bytes that were read give, or at a fault a
  -- prefix of it or nothing.
  pub record Gives (render : List ℕ → Transcript) (input input' : DeviceState R) (output output' : DeviceState W) (status : ℕ) : Type 0 where
    pub ended : Result RunEnd ScriptFault
    pub says : status ≡ run_status ended
    pub ran : MatchResult ended (WroteAll remaining contents render input input' output output') (Stops remaining contents render input input' output output')

  -- a script was read for this task, over a history with room for `capacity` entries
  abbrev pub RunsScript : Task → ℕ → DeviceState R → DeviceState R → DeviceState W → DeviceState W → ℕ → Type 0
  RunsScript task capacity = Gives (λ bytes. given_by task bytes capacity)

  -- a script was checked
  abbrev pub ChecksScript : DeviceState R → DeviceState R → DeviceState W → DeviceState W → ℕ → Type 0
  ChecksScript = Gives checked

  -- a request runs a script with the capacity that it asks for; if that is out of range, nothing is read or written
  unfoldable pub Serves : Request → DeviceState R → DeviceState R → DeviceState W → DeviceState W → ℕ → Type 0
  Serves request input input' output output' status = MatchOption (capacity_of request.capacity)
      ((status ≡ 2) × (input' ≡ input) × (output' ≡ output))
      (λ capacity. RunsScript request.task capacity input input' output output' status)

-- a writer took the whole text; or a call of it failed, and it took a prefix
abbrev pub TookText : {W : Type 0} → (W → Option (List ℕ)) → DeviceState W → DeviceState W → List ℕ → Type 0
TookText contents output output' text = Appends (contents output.inner) (contents output'.inner) text ⊎ ((output'.failed ≡ true) × TookPrefix contents output output' text)

-- help and the version go to the writer, whole or a prefix of them if it fails; of another answer it sees nothing
unfoldable pub ShowsAnswer : {W : Type 0} → (W → Option (List ℕ)) → Answer → DeviceState W → DeviceState W → Type 0
ShowsAnswer contents (Help text) output output' = TookText contents output output' (string_bytes text)
ShowsAnswer contents (Refusal text) output output' = output' ≡ output
ShowsAnswer contents (Fault fault) output output' = output' ≡ output
