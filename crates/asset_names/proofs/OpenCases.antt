-- Worked rows of open permits, computed on the definitions.
use Rattle.std.specs.Prelude.{pos, [], ◌∷◌, ◌++◌, None, refl}
use Rattle.asset_names.specs.declared.sets.ObSet.TheVariants.{Listed}
use Rattle.asset_names.specs.declared.steps.Step.TheVariants.{Write, Read, Complete, PermitAny, Delegate, Commit, Abort, Initiate, Begin}
use Rattle.asset_names.specs.declared.replies.Refusal.TheVariants.{Unknown, NoObject}
use Rattle.asset_names.specs.declared.replies.Reply.TheVariants.{Value, Committed, Aborted}
use Rattle.asset_names.specs.declared.replies.Outcome.TheVariants.{Answer, Wait}
use Rattle.asset_names.specs.Arrows.{lists, linked, among}
use Rattle.asset_names.specs.Sets.{numbers}
use Rattle.asset_names.specs.InSet.{in_set}
use Rattle.asset_names.specs.Paths.{both_ways, has_outside}
use Rattle.asset_names.specs.Steps.{takes_effect, applied, initiated_by, initiated, begun_by, begun, completed_by, completed}
use Rattle.asset_names.specs.Endings.{dependency_by, dependencies, class_arrows, order_arrows, doom_arrows, has_outside_source, ended_by, end_of, live, status_of, status, same_class}
use Rattle.asset_names.specs.Operations.{op_of, conflict, operated, operations, permits, permitted_by, openers, opened_by, permits_along, reaches_opener, allows, blocks, free, was_aborted, stands, exists, opening_at, opening_value, after_use, value_after, value}
use Rattle.asset_names.specs.Answers.{is_unknown, has_ended, is_running, is_completed, is_committed, has_begun, unknown, ended, not_running, taken, begun_before, too_late, no_object, one_name, missing_in, missing_rule, no_object_of, rules_for, first_refusal, may_commit, class_completed, commit_outcome, unrefused, outcome_unless, answer}
use Rattle.asset_names.proofs.Cases.{t, x, Case, ok, refused}
use Rattle.asset_names.specs.Operations.{holds_object, handed_over, copied}
use Rattle.asset_names.proofs.PermitCases.{three_run, six_ok, read_only}

-- anybody may read what an open permit covers, while its giver is live
abbrev OpenToAll : Type 0
OpenToAll = Case
    (three_run ++ Write (t 7) (x 1) (pos 50) ∷ PermitAny (t 7) (x 1 ∷ []) read_only ∷ Read (t 8) (x 1) ∷ Write (t 8) (x 1) (pos 60) ∷ Read (t 9) (x 2) ∷ Abort (t 7) ∷ Complete (t 8) ∷ Commit (t 8) ∷ [])
    (six_ok ++ ok ∷ ok ∷ Answer (Value (pos 50)) ∷ Wait ∷ Answer (Value (pos 200)) ∷ Answer Aborted ∷ ok ∷ Answer Committed ∷ [])

-- a delegation copies an open permit on what it moves
abbrev OpenCopied : Type 0
OpenCopied = Case
    (three_run ++ Write (t 7) (x 1) (pos 50) ∷ Write (t 7) (x 2) (pos 60) ∷ PermitAny (t 7) (x 1 ∷ x 2 ∷ []) read_only ∷ Delegate (t 7) (t 8) (Listed (x 1 ∷ [])) ∷ Read (t 7) (x 1) ∷ Read (t 9) (x 1) ∷ Read (t 9) (x 2) ∷ Abort (t 7) ∷ Read (t 9) (x 2) ∷ Read (t 9) (x 1) ∷ [])
    (six_ok ++ ok ∷ ok ∷ ok ∷ ok ∷ Answer (Value (pos 50)) ∷ Answer (Value (pos 50)) ∷ Answer (Value (pos 60)) ∷ Answer Aborted ∷ Answer (Value (pos 200)) ∷ Answer (Value (pos 50)) ∷ [])

-- which refusal of an open permit comes first
abbrev OpensRefused : Type 0
OpensRefused = Case
    (Initiate (t 7) None ∷ Begin (t 7) ∷ PermitAny (t 5) (x 9 ∷ []) read_only ∷ PermitAny (t 7) (x 9 ∷ []) read_only ∷ [])
    (ok ∷ ok ∷ refused (Unknown (t 5)) ∷ refused (NoObject (x 9)) ∷ [])

open_rows : OpenToAll × OpenCopied × OpensRefused
unfolding answer rules_for unrefused first_refusal outcome_unless unknown ended not_running taken begun_before too_late no_object one_name missing_in missing_rule no_object_of is_unknown has_ended is_running is_completed is_committed has_begun may_commit class_completed commit_outcome free blocks openers opened_by permits_along reaches_opener allows permits permitted_by in_set numbers conflict op_of operations operated value value_after after_use was_aborted stands opening_value opening_at exists status status_of end_of ended_by live same_class has_outside_source has_outside class_arrows order_arrows doom_arrows dependencies dependency_by both_ways initiated begun completed initiated_by begun_by completed_by applied takes_effect among linked lists holds_object handed_over copied
open_rows = (refl, refl, refl)
