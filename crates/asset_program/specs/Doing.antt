-- What is done by what the arguments ask for.
use Rattle.std.specs.Prelude.{◌≡◌, ℕ, List, Option, Result, Ok, Err}
use Rattle.asset_scripts.specs.Device.{DeviceState}
use Rattle.asset_requests.specs.declared.answers.Answer.{Answer}
use Rattle.asset_requests.specs.declared.requests.Asked.{Asked}
use Rattle.asset_requests.specs.declared.requests.Asked.TheVariants.{Script, Check, Shell, Jobs}
use Rattle.asset_program.specs.declared.doing.Next.{Next}
use Rattle.asset_program.specs.declared.doing.Next.TheVariants as Next'
use Rattle.asset_requests.specs.Answers.{answer_status}
use Rattle.asset_program.specs.Program.{Serves, ChecksScript, ShowsAnswer}
use Rattle.asset_program.specs.Converse.{Converses}

module _ {R W E : Type 0} (remaining : R → Option (List ℕ)) (contents : W → Option (List ℕ)) (said : E → Option (List ℕ)) where
  -- It was done, and the status says how that ended. A script is run or checked, or a conversation is held; only a conversation tells
  -- reasons. An answer in place of them is shown, and nothing is read. Jobs do not end here.
  unfoldable pub Ends : Result Asked Answer → DeviceState R → DeviceState R → DeviceState W → DeviceState W → DeviceState E → DeviceState E → ℕ → Type 0
  Ends (Ok (Script request)) input input' output output' reasons reasons' status =
      Serves remaining contents request input input' output output' status × (reasons' ≡ reasons)
  Ends (Ok Check) input input' output output' reasons reasons' status = ChecksScript remaining contents input input' output output' status × (reasons' ≡ reasons)
  Ends (Ok (Shell requested)) input input' output output' reasons reasons' status =
      Converses remaining contents said requested input input' output output' reasons reasons' status
  Ends (Ok (Jobs request)) input input' output output' reasons reasons' status = ⊥
  Ends (Err answer) input input' output output' reasons reasons' status =
      ShowsAnswer contents answer output output' × (status ≡ answer_status answer) × (input' ≡ input) × (reasons' ≡ reasons)

  -- jobs that are asked for are handed back, and nothing is read or written; anything else is done, and the program exits
  unfoldable pub LeadsTo : Result Asked Answer → DeviceState R → DeviceState R → DeviceState W → DeviceState W → DeviceState E → DeviceState E → Next → Type 0
  LeadsTo asked input input' output output' reasons reasons' (Next'.Jobs request) =
      (asked ≡ Ok (Jobs request)) × (input' ≡ input) × (output' ≡ output) × (reasons' ≡ reasons)
  LeadsTo asked input input' output output' reasons reasons' (Next'.Exit status) = Ends asked input input' output output' reasons reasons' status
