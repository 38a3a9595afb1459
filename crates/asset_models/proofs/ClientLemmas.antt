-- A client's calls after a step.
use Rattle.std.proofs.Common.{◌≡◌, List, [], ◌∷◌, map, reverse, ◌∙◌, ap}
use Rattle.std.proofs.lemmas.List.{map-append, reverse-append}
use Rattle.std.specs.Prelude.{Result, Ok, Err}
use Rattle.asset_names.specs.declared.steps.Step.{Step}
use Rattle.asset_names.specs.declared.replies.Outcome.{Outcome}
use Rattle.asset_names.specs.declared.replies.Outcome.TheVariants.{Answer, Wait}
use Rattle.asset_names.specs.declared.replies.Fault.{Fault}
use Rattle.asset_audit.specs.Audited.{Call}
use Rattle.asset_manager.specs.Listed.{IsListed}
use Rattle.asset_models.specs.Calls.{called}
use Rattle.asset_models.specs.Clients.{entry_of}

-- what a session lists is what was called
pub listed_called : (step : Step) (result : Result Outcome Fault) (before later : List Call) → IsListed before step result later → reverse (map entry_of later) ≡ called (reverse (map entry_of before)) step result
unfolding called
listed_called step (Ok (Answer reply)) before later listed =
    ap (λ (calls : List Call). reverse (map entry_of calls)) listed.1
    ∙ ap reverse (map-append entry_of before ((listed.0, step, reply) ∷ []))
    ∙ reverse-append (map entry_of before) ((step, reply) ∷ [])
listed_called step (Ok Wait) before later listed = ap (λ (calls : List Call). reverse (map entry_of calls)) listed
listed_called step (Err fault) before later listed = ap (λ (calls : List Call). reverse (map entry_of calls)) listed
