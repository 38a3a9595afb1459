-- Worked rows of adds, computed on the definitions.
use Rattle.std.specs.Prelude.{pos, negsuc, true, false, [], ◌∷◌, ◌++◌, None, refl}
use Rattle.asset_names.specs.declared.sets.ObSet.TheVariants.{Listed}
use Rattle.asset_names.specs.declared.steps.Step.TheVariants.{Write, Add, Read, Complete, Permit, Commit, Abort, Initiate, Begin}
use Rattle.asset_names.specs.declared.replies.Reply.TheVariants.{Value, Committed, Aborted}
use Rattle.asset_names.specs.declared.replies.Outcome.TheVariants.{Answer, Wait}
use Rattle.asset_names.specs.Arrows.{lists, linked, among}
use Rattle.asset_names.specs.Sets.{numbers}
use Rattle.asset_names.specs.InSet.{in_set}
use Rattle.asset_names.specs.Paths.{both_ways, has_outside}
use Rattle.asset_names.specs.Steps.{takes_effect, applied, initiated_by, initiated, begun_by, begun, completed_by, completed}
use Rattle.asset_names.specs.Endings.{dependency_by, dependencies, class_arrows, order_arrows, doom_arrows, has_outside_source, ended_by, end_of, live, status_of, status, same_class}
use Rattle.asset_names.specs.Operations.{op_of, conflict, operated, operations, permits, permitted_by, openers, opened_by, permits_along, reaches_opener, allows, blocks, free, was_aborted, stands, exists, opening_at, opening_value, after_use, value_after, value}
use Rattle.asset_names.specs.OpSets.{op_set}
use Rattle.asset_names.specs.Answers.{is_unknown, has_ended, is_running, is_completed, is_committed, has_begun, unknown, ended, not_running, taken, begun_before, too_late, no_object, one_name, missing_in, missing_rule, no_object_of, rules_for, first_refusal, may_commit, class_completed, commit_outcome, unrefused, outcome_unless, answer}
use Rattle.asset_names.proofs.Cases.{t, x, Case, ok}
use Rattle.std.specs.Int.{int_wrap}
use Rattle.asset_names.proofs.PermitCases.{three_run, six_ok}

-- two who add to one object do not wait for each other; who reads it waits for both, and an abort takes its own adds alone
abbrev AddsTogether : Type 0
AddsTogether = Case
    (three_run ++ Add (t 7) (x 1) (pos 5) ∷ Add (t 8) (x 1) (pos 7) ∷ Read (t 9) (x 1) ∷ Read (t 7) (x 1) ∷ Complete (t 8) ∷ Commit (t 8) ∷ Read (t 7) (x 1) ∷ Abort (t 7) ∷ Read (t 9) (x 1) ∷ [])
    (six_ok ++ ok ∷ ok ∷ Wait ∷ Wait ∷ ok ∷ Answer Committed ∷ Answer (Value (pos 112)) ∷ Answer Aborted ∷ Answer (Value (pos 107)) ∷ [])

-- a sum wraps
abbrev AddWraps : Type 0
AddWraps = Case
    (Initiate (t 7) None ∷ Begin (t 7) ∷ Write (t 7) (x 1) (pos 9223372036854775807) ∷ Add (t 7) (x 1) (pos 1) ∷ Read (t 7) (x 1) ∷ [])
    (ok ∷ ok ∷ ok ∷ ok ∷ Answer (Value (negsuc 9223372036854775807)) ∷ [])

-- an add over another's write, which a permit let through, stands when the write is undone
abbrev AddOverWrite : Type 0
AddOverWrite = Case
    (three_run ++ Write (t 7) (x 1) (pos 50) ∷ Permit (t 7) (t 8) (Listed (x 1 ∷ [])) (op_set false false true) ∷ Add (t 8) (x 1) (pos 3) ∷ Complete (t 8) ∷ Commit (t 8) ∷ Read (t 7) (x 1) ∷ Abort (t 7) ∷ Read (t 9) (x 1) ∷ [])
    (six_ok ++ ok ∷ ok ∷ ok ∷ ok ∷ Answer Committed ∷ Answer (Value (pos 53)) ∷ Answer Aborted ∷ Answer (Value (pos 103)) ∷ [])

-- a write over another's add, which a permit let through, is undone
abbrev WriteOverAdd : Type 0
WriteOverAdd = Case
    (Initiate (t 7) None ∷ Begin (t 7) ∷ Initiate (t 8) None ∷ Begin (t 8) ∷ Add (t 7) (x 1) (pos 5) ∷ Permit (t 7) (t 8) (Listed (x 1 ∷ [])) (op_set false true false) ∷ Write (t 8) (x 1) (pos 60) ∷ Abort (t 8) ∷ Read (t 7) (x 1) ∷ [])
    (ok ∷ ok ∷ ok ∷ ok ∷ ok ∷ ok ∷ ok ∷ Answer Aborted ∷ Answer (Value (pos 105)) ∷ [])

add_rows : AddsTogether × AddWraps × AddOverWrite × WriteOverAdd
unfolding answer rules_for unrefused first_refusal outcome_unless unknown ended not_running taken begun_before too_late no_object one_name missing_in missing_rule no_object_of is_unknown has_ended is_running is_completed is_committed has_begun may_commit class_completed commit_outcome free blocks allows openers opened_by permits_along reaches_opener permits permitted_by in_set numbers conflict op_of operations operated value value_after after_use was_aborted stands opening_value opening_at exists status status_of end_of ended_by live same_class has_outside_source has_outside class_arrows order_arrows doom_arrows dependencies dependency_by both_ways initiated begun completed initiated_by begun_by completed_by applied takes_effect among linked lists int_wrap
add_rows = (refl, refl, refl, refl)
