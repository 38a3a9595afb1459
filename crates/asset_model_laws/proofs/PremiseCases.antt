-- Why the laws on split, join and what a parent keeps ask that nobody else acts in the name of the taker: worked rows, computed on
-- the definitions, in which another client does, and the laws fail.
use Rattle.std.specs.Prelude.{◌≡◌, pos, true, List, [], ◌∷◌, ◌++◌, None, Some, reverse, refl}
use Rattle.asset_names.specs.declared.sets.ObSet.TheVariants.{All, Listed}
use Rattle.asset_names.specs.declared.steps.Step.{Step}
use Rattle.asset_names.specs.declared.steps.Step.TheVariants.{Initiate, Begin, Read, Write, Complete, Permit, Delegate, Commit, Abort}
use Rattle.asset_names.specs.declared.replies.Reply.TheVariants.{Value, Committed, Aborted}
use Rattle.asset_names.specs.declared.replies.Outcome.TheVariants.{Answer}
use Rattle.asset_names.specs.Arrows.{lists, linked, among}
use Rattle.asset_names.specs.Sets.{numbers}
use Rattle.asset_names.specs.InSet.{in_set}
use Rattle.asset_names.specs.OpSets.{op_set}
use Rattle.asset_names.specs.Paths.{both_ways, has_outside}
use Rattle.asset_names.specs.Steps.{takes_effect, applied, initiated_by, initiated, begun_by, begun, completed_by, completed}
use Rattle.asset_names.specs.Endings.{dependency_by, dependencies, class_arrows, order_arrows, doom_arrows, has_outside_source, ended_by, end_of, live, status_of, status, same_class}
use Rattle.asset_names.specs.Operations.{op_of, conflict, handed_over, operated, operations, holds_object, copied, permits, permitted_by, allows, blocks, free, was_aborted, stands, exists, opening_at, opening_value, after_use, value_after, value}
use Rattle.asset_names.specs.Answers.{is_unknown, has_ended, is_running, is_completed, is_committed, has_begun, unknown, ended, not_running, taken, begun_before, too_late, no_object, one_name, missing_in, missing_rule, no_object_of, rules_for, first_refusal, may_commit, class_completed, commit_outcome, wait_outcome, unrefused, outcome_unless, answer}
use Rattle.asset_names.proofs.Cases.{t, x, Case, ok}
use Rattle.asset_model_laws.specs.Owners.{owner_in, responsible}

-- 7 writes object 1, and 9 begins
abbrev before_split : List Step
before_split = Initiate (t 7) None ∷ Begin (t 7) ∷ Write (t 7) (x 1) (pos 50) ∷ Initiate (t 9) None ∷ Begin (t 9) ∷ []

-- `split` of object 1 from 7 to 8, up to its delegation, and from there on
abbrev split_begins : List Step
split_begins = Initiate (t 8) None ∷ Begin (t 8) ∷ Delegate (t 7) (t 8) (Listed (x 1 ∷ [])) ∷ []

abbrev split_goes_on : List Step
split_goes_on = Complete (t 8) ∷ Commit (t 8) ∷ []

-- another client hands over to 9 what 8 is responsible for
abbrev handed_on : List Step
handed_on = Delegate (t 8) (t 9) All ∷ []

-- 9 aborts, and 6 reads object 1
abbrev undone_and_read : List Step
undone_and_read = Abort (t 9) ∷ Initiate (t 6) None ∷ Begin (t 6) ∷ Read (t 6) (x 1) ∷ []

-- Each step of `split` is answered as it should be, and it answers `Committed`. But what was split off is 9's, and is undone.
abbrev SplitIsUndone : Type 0
SplitIsUndone = Case (before_split ++ split_begins ++ handed_on ++ split_goes_on ++ undone_and_read)
    (ok ∷ ok ∷ ok ∷ ok ∷ ok ∷ ok ∷ ok ∷ ok ∷ ok ∷ ok ∷ Answer Committed ∷ Answer Aborted ∷ ok ∷ ok ∷ Answer (Value (pos 100)) ∷ [])
    × (responsible (reverse (before_split ++ split_begins)) 0 ≡ Some 8)
    × (responsible (reverse (before_split ++ split_begins ++ handed_on ++ split_goes_on)) 0 ≡ Some 9)

-- 7 writes object 1, and 8 and 9 begin
abbrev before_join : List Step
before_join = Initiate (t 7) None ∷ Begin (t 7) ∷ Write (t 7) (x 1) (pos 50) ∷ Initiate (t 8) None ∷ Begin (t 8) ∷ Initiate (t 9) None ∷ Begin (t 9) ∷ []

-- `join` of 7 to 8, its delegation and from there on
abbrev join_begins : List Step
join_begins = Delegate (t 7) (t 8) All ∷ []

abbrev join_goes_on : List Step
join_goes_on = Complete (t 7) ∷ Commit (t 7) ∷ []

-- `join` answers `Committed`, and what was joined is 9's, and not 8's.
abbrev JoinIsTakenAway : Type 0
JoinIsTakenAway = Case (before_join ++ join_begins ++ handed_on ++ join_goes_on)
    (ok ∷ ok ∷ ok ∷ ok ∷ ok ∷ ok ∷ ok ∷ ok ∷ ok ∷ ok ∷ Answer Committed ∷ [])
    × (responsible (reverse before_join) 0 ≡ Some 7)
    × (responsible (reverse (before_join ++ join_begins ++ handed_on ++ join_goes_on)) 0 ≡ Some 9)

-- 9 begins
abbrev before_nested : List Step
before_nested = Initiate (t 9) None ∷ Begin (t 9) ∷ []

-- `nested` of 8 with its child 7, up to what the child hands over, and from there on
abbrev nested_begins : List Step
nested_begins =
    Initiate (t 8) None ∷ Begin (t 8) ∷ Initiate (t 7) (Some (t 8)) ∷ Permit (t 8) (t 7) All (op_set true true true) ∷ Begin (t 7) ∷ Write (t 7) (x 1) (pos 50) ∷ Complete (t 7)
    ∷ Delegate (t 7) (t 8) All ∷ []

abbrev nested_goes_on : List Step
nested_goes_on = Commit (t 7) ∷ Complete (t 8) ∷ Commit (t 8) ∷ []

-- `nested` answers `Committed`, and what the child handed over is 9's, and not its parent's.
abbrev ChildIsTakenAway : Type 0
ChildIsTakenAway = Case (before_nested ++ nested_begins ++ handed_on ++ nested_goes_on)
    (ok ∷ ok ∷ ok ∷ ok ∷ ok ∷ ok ∷ ok ∷ ok ∷ ok ∷ ok ∷ ok ∷ Answer Committed ∷ ok ∷ Answer Committed ∷ [])
    × (responsible (reverse (before_nested ++ nested_begins)) 0 ≡ Some 8)
    × (responsible (reverse (before_nested ++ nested_begins ++ handed_on ++ nested_goes_on)) 0 ≡ Some 9)

handing_rows : SplitIsUndone × JoinIsTakenAway × ChildIsTakenAway
unfolding answer rules_for unrefused first_refusal outcome_unless unknown ended not_running taken begun_before too_late no_object one_name missing_in missing_rule no_object_of is_unknown has_ended is_running is_completed is_committed has_begun may_commit class_completed commit_outcome wait_outcome free blocks allows permits permitted_by holds_object copied in_set numbers conflict op_of handed_over operations operated value value_after after_use was_aborted stands opening_value opening_at exists status status_of end_of ended_by live same_class has_outside_source has_outside class_arrows order_arrows doom_arrows dependencies dependency_by both_ways initiated begun completed initiated_by begun_by completed_by applied takes_effect among linked lists responsible owner_in
handing_rows = ((refl, refl, refl), (refl, refl, refl), (refl, refl, refl))
