-- A model's own calls after an answer.
use Rattle.std.proofs.Common.{◌≡◌, List, [], ◌∷◌, ◌++◌, reverse}
use Rattle.std.proofs.lemmas.List.{reverse-append}
use Rattle.std.specs.Prelude.{Ok}
use Rattle.asset_names.specs.declared.steps.Step.{Step}
use Rattle.asset_names.specs.declared.replies.Reply.{Reply}
use Rattle.asset_names.specs.declared.replies.Outcome.TheVariants.{Answer}
use Rattle.asset_names.specs.Steps.{Entry}
use Rattle.asset_models.specs.Calls.{called}

-- the newest call of a list that is read backwards is the one that was appended last
pub appended_is_called : (own : List Entry) (step : Step) (reply : Reply) → reverse (own ++ (step, reply) ∷ []) ≡ called (reverse own) step (Ok (Answer reply))
unfolding called
appended_is_called own step reply = reverse-append own ((step, reply) ∷ [])
