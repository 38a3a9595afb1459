-- What was asked in order, each step once.
use Rattle.std.specs.Prelude.{◌≡◌, ◌⊎◌, Bool, true, false, List, [], ◌∷◌, Option, Some, None, Result, Ok, Err}
use Rattle.asset_names.specs.declared.steps.Step.{Step}
use Rattle.asset_names.specs.declared.replies.Reply.TheVariants.{Done}
use Rattle.asset_names.specs.declared.replies.Outcome.{Outcome}
use Rattle.asset_names.specs.declared.replies.Outcome.TheVariants.{Answer}
use Rattle.asset_names.specs.declared.replies.Fault.{Fault}
use Rattle.asset_names.specs.declared.replies.Fault.TheVariants.{NoMemory}
use Rattle.asset_audit.specs.Audited.{Call}
use Rattle.asset_manager.specs.Listed.{IsListed}

-- what a step met, or nothing if it was not asked
abbrev pub StepMet : Type 0
StepMet = Option (Result Outcome Fault)

-- the calls after a step: an answer is one call more, and a wait, a fault or a step that was not asked is none
abbrev pub AreCallsAfter : List Call → Step → StepMet → List Call → Type 0
AreCallsAfter before step (Some result) later = IsListed before step result later
AreCallsAfter before step None later = later ≡ before

-- whether the step was answered `Done`
abbrev pub is_done : StepMet → Bool
is_done (Some (Ok (Answer Done))) = true
is_done met = false

-- the step was asked, and memory did not run out
abbrev pub HadMemory : StepMet → Type 0
HadMemory (Some (Err NoMemory)) = ⊥
HadMemory None = ⊥
HadMemory met = Unit {0}

-- the steps were asked in order, each once at most, up to the first that was not answered `Done` or that could not be asked;
-- `all` says whether each was answered `Done`
abbrev pub InTurn : List Step → List Call → Bool → List Call → Type 0
InTurn [] before all later = (all ≡ true) × (later ≡ before)
InTurn (step ∷ steps) before all later = (met : StepMet) × (between : List Call) × AreCallsAfter before step met between
    × (((is_done met ≡ true) × InTurn steps between all later) ⊎ ((is_done met ≡ false) × (all ≡ false) × (later ≡ between)))
