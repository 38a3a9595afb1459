-- Worked rows of permits, computed on the definitions.
use Rattle.std.specs.Prelude.{pos, true, false, List, [], ◌∷◌, ◌++◌, None, refl}
use Rattle.asset_names.specs.declared.sets.ObSet.TheVariants.{All, Listed}
use Rattle.asset_names.specs.declared.steps.Step.{Step}
use Rattle.asset_names.specs.declared.steps.Step.TheVariants.{Initiate, Begin, Read, Write, Complete, Permit, Commit, Abort}
use Rattle.asset_names.specs.declared.replies.Refusal.TheVariants.{Unknown, Ended, NoObject, Same}
use Rattle.asset_names.specs.declared.replies.Reply.TheVariants.{Value, Committed, Aborted}
use Rattle.asset_names.specs.declared.replies.Outcome.{Outcome}
use Rattle.asset_names.specs.declared.replies.Outcome.TheVariants.{Answer, Wait}
use Rattle.asset_names.specs.Arrows.{lists, linked, among}
use Rattle.asset_names.specs.Sets.{numbers}
use Rattle.asset_names.specs.InSet.{in_set}
use Rattle.asset_names.specs.Paths.{both_ways, has_outside}
use Rattle.asset_names.specs.Steps.{takes_effect, applied, initiated_by, initiated, begun_by, begun, completed_by, completed}
use Rattle.asset_names.specs.Endings.{dependency_by, dependencies, class_arrows, order_arrows, doom_arrows, has_outside_source, ended_by, end_of, live, status_of, status, same_class}
use Rattle.asset_names.specs.Operations.{op_of, conflict, operated, operations, permits, permitted_by, openers, opened_by, permits_along, reaches_opener, allows, blocks, free, was_aborted, stands, exists, opening_at, opening_value, after_use, value_after, value}
use Rattle.asset_names.specs.OpSets.{OpSet, op_set}
use Rattle.asset_names.specs.Answers.{is_unknown, has_ended, is_running, is_completed, is_committed, has_begun, unknown, ended, not_running, taken, begun_before, too_late, no_object, one_name, missing_in, missing_rule, no_object_of, rules_for, first_refusal, may_commit, class_completed, commit_outcome, unrefused, outcome_unless, answer}
use Rattle.asset_names.proofs.Cases.{t, x, Case, ok, refused}

-- read and write, and read alone
abbrev pub read_and_write : OpSet
read_and_write = op_set true true false

abbrev pub read_only : OpSet
read_only = op_set true false false

-- three names run
abbrev pub three_run : List Step
three_run = Initiate (t 7) None ∷ Begin (t 7) ∷ Initiate (t 8) None ∷ Begin (t 8) ∷ Initiate (t 9) None ∷ Begin (t 9) ∷ []

abbrev pub six_ok : List Outcome
six_ok = ok ∷ ok ∷ ok ∷ ok ∷ ok ∷ ok ∷ []

-- a write that a permit let through stands when the giver aborts, and goes with its own writer
abbrev CooperatingWriteSurvives : Type 0
CooperatingWriteSurvives = Case
    (three_run ++ Write (t 7) (x 1) (pos 50) ∷ Permit (t 7) (t 8) (Listed (x 1 ∷ [])) read_and_write ∷ Write (t 8) (x 1) (pos 60) ∷ Abort (t 7) ∷ Read (t 8) (x 1) ∷ Abort (t 8) ∷ Read (t 9) (x 1) ∷ [])
    (six_ok ++ ok ∷ ok ∷ ok ∷ Answer Aborted ∷ Answer (Value (pos 60)) ∷ Answer Aborted ∷ Answer (Value (pos 100)) ∷ [])

-- the giver waits for the taker, whom it let through and who did not permit it anything
abbrev CooperatingWriteUndone : Type 0
CooperatingWriteUndone = Case
    (three_run ++ Write (t 7) (x 1) (pos 50) ∷ Permit (t 7) (t 8) (Listed (x 1 ∷ [])) read_and_write ∷ Write (t 8) (x 1) (pos 60) ∷ Read (t 7) (x 1) ∷ Abort (t 8) ∷ Read (t 7) (x 1) ∷ Abort (t 7) ∷ Read (t 9) (x 1) ∷ [])
    (six_ok ++ ok ∷ ok ∷ ok ∷ Wait ∷ Answer Aborted ∷ Answer (Value (pos 50)) ∷ Answer Aborted ∷ Answer (Value (pos 100)) ∷ [])

-- a chain of two permits covers what both cover, and breaks when its middle ends
abbrev PermitChain : Type 0
PermitChain = Case
    (three_run ++ Write (t 7) (x 1) (pos 11) ∷ Write (t 7) (x 2) (pos 22) ∷ Write (t 7) (x 3) (pos 33) ∷ Permit (t 7) (t 8) (Listed (x 1 ∷ x 2 ∷ [])) read_and_write ∷ Permit (t 8) (t 9) (Listed (x 2 ∷ x 3 ∷ [])) read_only
    ∷ Read (t 9) (x 2) ∷ Read (t 9) (x 1) ∷ Write (t 9) (x 2) (pos 5) ∷ Read (t 9) (x 3) ∷ Complete (t 8) ∷ Commit (t 8) ∷ Read (t 9) (x 2) ∷ [])
    (six_ok ++ ok ∷ ok ∷ ok ∷ ok ∷ ok ∷ Answer (Value (pos 22)) ∷ Wait ∷ Wait ∷ Wait ∷ ok ∷ Answer Committed ∷ Wait ∷ [])

-- which refusal of a permit comes first
abbrev PermitsRefused : Type 0
PermitsRefused = Case
    (Permit (t 5) (t 5) (Listed (x 9 ∷ [])) read_only ∷ Permit (t 5) (t 6) (Listed (x 9 ∷ [])) read_only ∷ Initiate (t 5) None ∷ Permit (t 5) (t 6) (Listed (x 9 ∷ [])) read_only ∷ Initiate (t 6) None ∷ Permit (t 5) (t 6) (Listed (x 1 ∷ x 8 ∷ x 9 ∷ [])) read_only ∷ Permit (t 5) (t 6) All read_only
    ∷ Abort (t 6) ∷ Permit (t 5) (t 6) (Listed (x 9 ∷ [])) read_only ∷ Abort (t 5) ∷ Permit (t 5) (t 6) All read_only ∷ [])
    (refused Same ∷ refused (Unknown (t 5)) ∷ ok ∷ refused (Unknown (t 6)) ∷ ok ∷ refused (NoObject (x 8)) ∷ ok ∷ Answer Aborted ∷ refused (Ended (t 6)) ∷ Answer Aborted ∷ refused (Ended (t 5)) ∷ [])

permit_rows : CooperatingWriteSurvives × CooperatingWriteUndone × PermitChain × PermitsRefused
unfolding answer rules_for unrefused first_refusal outcome_unless unknown ended not_running taken begun_before too_late no_object one_name missing_in missing_rule no_object_of is_unknown has_ended is_running is_completed is_committed has_begun may_commit class_completed commit_outcome free blocks openers opened_by permits_along reaches_opener allows permits permitted_by in_set numbers conflict op_of operations operated value value_after after_use was_aborted stands opening_value opening_at exists status status_of end_of ended_by live same_class has_outside_source has_outside class_arrows order_arrows doom_arrows dependencies dependency_by both_ways initiated begun completed initiated_by begun_by completed_by applied takes_effect among linked lists
permit_rows = (refl, refl, refl, refl)
