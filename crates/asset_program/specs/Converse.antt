-- What a conversation with the program comes to.
use Rattle.std.specs.Prelude.{◌≡◌, ℕ, List, Option, MatchOption, Result, MatchResult, IfErr}
use Rattle.asset_scripts.specs.declared.ends.RunEnd.{RunEnd}
use Rattle.asset_scripts.specs.declared.faults.ScriptFault.{ScriptFault}
use Rattle.asset_scripts.specs.Device.{DeviceState}
use Rattle.asset_shell.specs.Turns.{Streams, HasWrittenAll, StopsFor, StopsWith, streams}
use Rattle.asset_requests.specs.Limits.{capacity_of}
use Rattle.asset_program.specs.Exit.{run_status}

module _ {R W E : Type 0} (remaining : R → Option (List ℕ)) (contents : W → Option (List ℕ)) (said : E → Option (List ℕ)) where
  -- what a reader and two writers have
  abbrev pub seen_of : DeviceState R → DeviceState W → DeviceState E → Streams
  seen_of input output reasons = streams (remaining input.inner) (contents output.inner) (said reasons.inner)

  -- A conversation was held over a history with room for `capacity` entries. The status says how it ended; what was written is the
  -- answers to all lines that were read and the reasons of the bad ones, or at a fault a prefix of each.
  pub record Talks (capacity : ℕ) (input input' : DeviceState R) (output output' : DeviceState W) (reasons reasons' : DeviceState E) (status : ℕ) : Type 0 where
    pub ended : Result RunEnd ScriptFault
    pub says : status ≡ run_status ended
    pub talked : MatchResult ended (HasWrittenAll (seen_of input output reasons) (seen_of input' output' reasons') capacity) (StopsWith (seen_of input output reasons) (seen_of input' output' reasons') capacity)
    pub cause : IfErr ended (StopsFor input input' output' reasons')

  -- a conversation with the capacity that was asked for; if that is out of range, nothing is read or written
  unfoldable pub Converses : Option ℕ → DeviceState R → DeviceState R → DeviceState W → DeviceState W → DeviceState E → DeviceState E → ℕ → Type 0
  Converses requested input input' output output' reasons reasons' status = MatchOption (capacity_of requested)
      ((status ≡ 2) × (input' ≡ input) × (output' ≡ output) × (reasons' ≡ reasons))
      (λ capacity. Talks capacity input input' output output' reasons reasons' status)
