-- Worked rows of delegations, computed on the definitions.
use Rattle.std.specs.Prelude.{pos, [], ◌∷◌, ◌++◌, None, refl}
use Rattle.asset_names.specs.declared.sets.ObSet.TheVariants.{All, Listed}
use Rattle.asset_names.specs.declared.steps.Step.TheVariants.{Initiate, Begin, Read, Write, Complete, Permit, Delegate, Commit, Abort, WaitFor}
use Rattle.asset_names.specs.declared.replies.Refusal.TheVariants.{Unknown, Ended, NotRunning, Begun, Taken, NoObject, Same}
use Rattle.asset_names.specs.declared.replies.Reply.TheVariants.{Value, Committed, Aborted}
use Rattle.asset_names.specs.declared.replies.Outcome.TheVariants.{Answer, Wait}
use Rattle.asset_names.specs.Arrows.{lists, linked, among}
use Rattle.asset_names.specs.Sets.{numbers}
use Rattle.asset_names.specs.InSet.{in_set}
use Rattle.asset_names.specs.Paths.{both_ways, has_outside}
use Rattle.asset_names.specs.Steps.{takes_effect, applied, initiated_by, initiated, begun_by, begun, completed_by, completed}
use Rattle.asset_names.specs.Endings.{dependency_by, dependencies, class_arrows, order_arrows, doom_arrows, has_outside_source, ended_by, end_of, live, status_of, status, same_class}
use Rattle.asset_names.specs.Operations.{op_of, conflict, handed_over, operated, operations, holds_object, copied, permits, permitted_by, openers, opened_by, permits_along, reaches_opener, allows, blocks, free, was_aborted, stands, exists, opening_at, opening_value, after_use, value_after, value}
use Rattle.asset_names.specs.Answers.{is_unknown, has_ended, is_running, is_completed, is_committed, has_begun, unknown, ended, not_running, taken, begun_before, too_late, no_object, one_name, missing_in, missing_rule, no_object_of, rules_for, first_refusal, may_commit, class_completed, commit_outcome, wait_outcome, unrefused, outcome_unless, answer}
use Rattle.asset_names.proofs.Cases.{t, x, Case, ok, refused}
use Rattle.asset_names.proofs.PermitCases.{read_and_write, read_only, three_run, six_ok}

-- a write that was handed over stands when the one who made it aborts, and blocks until the one who took it ends
abbrev DelegatedWrite : Type 0
DelegatedWrite = Case
    (three_run ++ Write (t 7) (x 1) (pos 50) ∷ Delegate (t 7) (t 8) (Listed (x 1 ∷ [])) ∷ Abort (t 7) ∷ Read (t 9) (x 1) ∷ Complete (t 8) ∷ Commit (t 8) ∷ Read (t 9) (x 1) ∷ [])
    (six_ok ++ ok ∷ ok ∷ Answer Aborted ∷ Wait ∷ ok ∷ Answer Committed ∷ Answer (Value (pos 50)) ∷ [])

-- a delegation moves what is held, and copies the giver's permits on the moved objects alone
abbrev DelegationMovesAndCopies : Type 0
DelegationMovesAndCopies = Case
    (three_run ++ Write (t 7) (x 1) (pos 50) ∷ Write (t 8) (x 2) (pos 80) ∷ Permit (t 7) (t 9) All read_and_write ∷ Delegate (t 7) (t 8) (Listed (x 1 ∷ []))
    ∷ Read (t 7) (x 1) ∷ Read (t 9) (x 1) ∷ Read (t 9) (x 2) ∷ Delegate (t 7) (t 8) All ∷ Read (t 9) (x 2) ∷ [])
    (six_ok ++ ok ∷ ok ∷ ok ∷ ok ∷ Wait ∷ Answer (Value (pos 50)) ∷ Wait ∷ ok ∷ Wait ∷ [])

-- a copied permit may come to have one name on both ends, and the next delegation copies it on
abbrev SelfPermitByDelegation : Type 0
SelfPermitByDelegation = Case
    (Initiate (t 1) None ∷ Begin (t 1) ∷ Initiate (t 2) None ∷ Begin (t 2) ∷ Initiate (t 3) None ∷ Begin (t 3) ∷ Write (t 3) (x 1) (pos 50) ∷ Permit (t 3) (t 1) (Listed (x 1 ∷ [])) read_and_write
    ∷ Delegate (t 3) (t 1) (Listed (x 1 ∷ [])) ∷ Delegate (t 1) (t 2) (Listed (x 1 ∷ [])) ∷ Read (t 1) (x 1) ∷ [])
    (six_ok ++ ok ∷ ok ∷ ok ∷ ok ∷ Answer (Value (pos 50)) ∷ [])

-- which refusal comes first
abbrev RefusalsWithDelegations : Type 0
RefusalsWithDelegations = Case
    (Initiate (t 7) None ∷ Begin (t 7) ∷ Begin (t 5) ∷ Begin (t 7) ∷ Initiate (t 7) None ∷ Read (t 5) (x 9) ∷ Read (t 7) (x 9) ∷ Permit (t 7) (t 5) (Listed (x 9 ∷ [])) read_only ∷ Permit (t 5) (t 5) (Listed (x 9 ∷ [])) read_only
    ∷ Complete (t 7) ∷ Read (t 7) (x 9) ∷ Complete (t 7) ∷ Initiate (t 6) None ∷ Delegate (t 7) (t 6) (Listed (x 9 ∷ [])) ∷ Commit (t 6) ∷ WaitFor (t 7) ∷ WaitFor (t 6) ∷ [])
    (ok ∷ ok ∷ refused (Unknown (t 5)) ∷ refused (Begun (t 7)) ∷ refused (Taken (t 7)) ∷ refused (Unknown (t 5)) ∷ refused (NoObject (x 9)) ∷ refused (Unknown (t 5)) ∷ refused Same
    ∷ ok ∷ refused (NotRunning (t 7)) ∷ refused (NotRunning (t 7)) ∷ ok ∷ refused (NoObject (x 9)) ∷ Wait ∷ ok ∷ Wait ∷ [])

-- the refusals of a delegation, and one that moves nothing
abbrev DelegationsRefused : Type 0
DelegationsRefused = Case
    (Delegate (t 5) (t 5) (Listed (x 9 ∷ [])) ∷ Delegate (t 5) (t 6) (Listed (x 9 ∷ [])) ∷ Initiate (t 5) None ∷ Delegate (t 5) (t 6) (Listed (x 9 ∷ [])) ∷ Initiate (t 6) None ∷ Delegate (t 5) (t 6) (Listed (x 1 ∷ x 8 ∷ x 9 ∷ [])) ∷ Delegate (t 5) (t 6) All
    ∷ Abort (t 6) ∷ Delegate (t 5) (t 6) (Listed (x 9 ∷ [])) ∷ Abort (t 5) ∷ Delegate (t 5) (t 6) All ∷ [])
    (refused Same ∷ refused (Unknown (t 5)) ∷ ok ∷ refused (Unknown (t 6)) ∷ ok ∷ refused (NoObject (x 8)) ∷ ok ∷ Answer Aborted ∷ refused (Ended (t 6)) ∷ Answer Aborted ∷ refused (Ended (t 5)) ∷ [])

delegation_rows : DelegatedWrite × DelegationMovesAndCopies × SelfPermitByDelegation × RefusalsWithDelegations × DelegationsRefused
unfolding answer rules_for unrefused first_refusal outcome_unless unknown ended not_running taken begun_before too_late no_object one_name missing_in missing_rule no_object_of is_unknown has_ended is_running is_completed is_committed has_begun may_commit class_completed commit_outcome wait_outcome free blocks openers opened_by permits_along reaches_opener allows permits permitted_by holds_object copied in_set numbers conflict op_of handed_over operations operated value value_after after_use was_aborted stands opening_value opening_at exists status status_of end_of ended_by live same_class has_outside_source has_outside class_arrows order_arrows doom_arrows dependencies dependency_by both_ways initiated begun completed initiated_by begun_by completed_by applied takes_effect among linked lists
delegation_rows = (refl, refl, refl, refl, refl)
