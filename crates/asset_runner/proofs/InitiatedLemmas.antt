-- What an initiation asked, and its answer.
use Rattle.std.proofs.Common.{◌≡◌, Bool, true, false, cond, List, Option, Some, None, Result, Ok, Err, sym, subst}
use Rattle.std.specs.Prelude.{IfOk}
use Rattle.asset_names.specs.declared.names.Txn.{Txn}
use Rattle.asset_names.specs.declared.steps.Step.{Step}
use Rattle.asset_names.specs.declared.steps.Step.TheVariants.{Initiate}
use Rattle.asset_names.specs.declared.replies.Reply.TheVariants.{Done, Value, Committed, Aborted, Refused}
use Rattle.asset_names.specs.declared.replies.Outcome.{Outcome}
use Rattle.asset_names.specs.declared.replies.Outcome.TheVariants.{Answer, Wait}
use Rattle.asset_names.specs.declared.replies.Fault.{Fault}
use Rattle.asset_names.specs.declared.replies.Fault.TheVariants.{Full, NoMemory}
use Rattle.asset_names.specs.Steps.{Opening, applied}
use Rattle.asset_names.specs.Answers.{answer, rules_for, first_refusal, outcome_unless, unrefused, taken}
use Rattle.asset_audit.specs.Audited.{Call}
use Rattle.asset_entries.specs.Recorded.{answer_to}
use Rattle.asset_manager.specs.Listed.{IsListed}
use Rattle.asset_manager.specs.Asks.{IsAnswer}
use Rattle.asset_runner.specs.Initiated.{IsInitiated, IsInitiation, cause_by}

-- an initiation is answered `Done` or refused
answered : (opening : Opening) (steps : List Step) (t : Txn) (parent : Option Txn) → IsInitiation (Ok (answer opening steps (Initiate t parent)))
unfolding answer rules_for first_refusal outcome_unless unrefused
answered opening steps t parent = go (taken steps t).0 where
  go : (b : Bool) → IsInitiation (Ok (outcome_unless (cond b (Some (taken steps t).1) None) (Answer Done)))
  go true = tt
  go false = tt

pub is_initiation : (t : Txn) (parent : Option Txn) (result : Result Outcome Fault) → IfOk result (IsAnswer (Initiate t parent)) → IsInitiation result
unfolding answer_to
is_initiation t parent (Err fault) by = tt
is_initiation t parent (Ok outcome) by = subst (λ (o : Outcome). IsInitiation (Ok o)) (sym by.answered) (answered by.history.opening (applied by.history.entries) t parent)

-- what an initiation asked that was answered `Done`
pub initiated : (before later : List Call) (step : Step) (result : Result Outcome Fault) → IsInitiation result → cause_by result ≡ None → IsListed before step result later → IsInitiated before step later
initiated before later step (Ok (Answer Done)) is none listed = listed
initiated before later step (Ok (Answer (Refused refusal))) is none listed = absurd (cc none)
initiated before later step (Ok (Answer (Value v))) is none listed = absurd is
initiated before later step (Ok (Answer Committed)) is none listed = absurd is
initiated before later step (Ok (Answer Aborted)) is none listed = absurd is
initiated before later step (Ok Wait) is none listed = absurd is
initiated before later step (Err Full) is none listed = absurd (cc none)
initiated before later step (Err NoMemory) is none listed = absurd (cc none)
