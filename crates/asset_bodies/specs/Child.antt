-- The steps of a child's run, before and after its body.
use Rattle.std.specs.Prelude.{◌≡◌, Bool, true, false, List, [], ◌∷◌, Some}
use Rattle.asset_names.specs.declared.names.Txn.{Txn}
use Rattle.asset_names.specs.OpSets.{op_set}
use Rattle.asset_names.specs.declared.sets.ObSet.TheVariants.{All}
use Rattle.asset_names.specs.declared.steps.Step.{Step}
use Rattle.asset_names.specs.declared.steps.Step.TheVariants.{Initiate, Begin, Permit, Delegate, Commit, Abort}
use Rattle.asset_audit.specs.Audited.{Call}
use Rattle.asset_bodies.specs.Asked.{StepMet, AreCallsAfter, InTurn}

-- first the child is initiated
abbrev pub initiates : Txn → Txn → List Step
initiates parent child = Initiate child (Some parent) ∷ []

-- then it may do whatever conflicts with its parent, and begins
abbrev pub begins : Txn → Txn → List Step
begins parent child = Permit parent child All (op_set true true true) ∷ Begin child ∷ []

-- each step before the body was answered `Done`
pub record Begun (parent child : Txn) (before later : List Call) : Type 0 where
  pub between : List Call
  pub initiated : InTurn (initiates parent child) before true between
  pub begun : InTurn (begins parent child) between true later

-- after a begin that failed: nothing more was asked of a child that was not initiated, and of one that was initiated an abort
-- was asked, whatever came of it
abbrev pub GivesUp : Txn → Txn → Bool → List Call → List Call → Type 0
GivesUp parent child false before later = later ≡ before
GivesUp parent child true before later = (between : List Call) × (met : StepMet) × InTurn (begins parent child) before false between × AreCallsAfter between (Abort child) met later

-- a step before the body was not answered `Done`
abbrev pub FailsToBegin : Txn → Txn → List Call → List Call → Type 0
FailsToBegin parent child before later = (initiated : Bool) × (between : List Call) × InTurn (initiates parent child) before initiated between × GivesUp parent child initiated between later

-- the last step that is asked of a child: a commit if its work was handed over, and else an abort
abbrev pub end_of_child : Txn → Bool → Step
end_of_child child true = Commit child
end_of_child child false = Abort child

-- What is asked after the body: nothing if it gave up; an abort if it is done and its complete was not answered `Done`; else that
-- the child's work is handed over to its parent, and then its last step.
abbrev pub Closes : Txn → Txn → Bool → Bool → List Call → List Call → Type 0
Closes parent child false completed before later = later ≡ before
Closes parent child true false before later = (met : StepMet) × AreCallsAfter before (Abort child) met later
Closes parent child true true before later = (handed : Bool) × (between : List Call) × (met : StepMet)
    × InTurn (Delegate child parent All ∷ []) before handed between × AreCallsAfter between (end_of_child child handed) met later
