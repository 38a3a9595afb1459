-- Why the laws have their premises: worked rows, computed on the definitions, in which a law without one of them fails.
use Rattle.std.specs.Int.{int_wrap}
use Rattle.std.specs.Prelude.{◌≡◌, pos, true, false, List, [], ◌∷◌, ◌++◌, None, Some, reverse, refl}
use Rattle.asset_names.specs.declared.operations.Op.TheVariants as Op'
use Rattle.asset_names.specs.declared.sets.ObSet.TheVariants.{Listed}
use Rattle.asset_names.specs.declared.steps.Step.{Step}
use Rattle.asset_names.specs.declared.steps.Step.TheVariants.{Initiate, Begin, Read, Write, Add, Complete, Permit, Commit}
use Rattle.asset_names.specs.declared.replies.Reply.TheVariants.{Done, Value, Committed}
use Rattle.asset_names.specs.declared.replies.Outcome.TheVariants.{Answer}
use Rattle.asset_names.specs.Arrows.{lists, linked, among}
use Rattle.asset_names.specs.InSet.{in_set}
use Rattle.asset_names.specs.Sets.{numbers}
use Rattle.asset_names.specs.Paths.{same_kind, both_ways, has_outside}
use Rattle.asset_names.specs.Steps.{Entry, takes_effect, applied, initiated_by, initiated, begun_by, begun, completed_by, completed}
use Rattle.asset_names.specs.Endings.{dependency_by, dependencies, class_arrows, order_arrows, doom_arrows, has_outside_source, ended_by, end_of, live, status_of, status, same_class}
use Rattle.asset_names.specs.Operations.{writes, op_of, same_op, conflict, operated, operations, holds, permits, permitted_by, openers, opened_by, permits_along, reaches_opener, allows, blocks, free, was_aborted, stands, exists, opening_at, opening_value, after_use, value_after, value}
use Rattle.asset_names.specs.Groups.{actor, partner, operates_on, opens_for, met, joined_by, joins, same_group}
use Rattle.asset_names.specs.Sources.{is_operation, is_write, operation_numbers, numbered, stands_on, source, entry_at}
use Rattle.asset_names.specs.Answers.{is_unknown, has_ended, is_running, is_completed, is_committed, has_begun, unknown, ended, not_running, taken, begun_before, too_late, no_object, one_name, missing_in, missing_rule, no_object_of, rules_for, first_refusal, may_commit, class_completed, commit_outcome, unrefused, outcome_unless, IsLegal, answer}
use Rattle.asset_names.proofs.Cases.{t, x, three, ok, Case}
use Rattle.asset_names.proofs.PermitCases.{read_only}
use Rattle.asset_laws.specs.Renumbered.{source_number, writing, reading, renumbered, zeroed}
use Rattle.asset_laws.specs.Serial.{committed_by, committed_names, entries_of, serial}
use Rattle.asset_laws.proofs.GroupCases.{done}
use Rattle.asset_laws.proofs.SerialCases.{permitted}

-- two that read one object hold it, and share nothing: only holders in conflict are of one group
abbrev two_readers : List Entry
two_readers = reverse (done (Initiate (t 7) None) ∷ done (Begin (t 7)) ∷ done (Initiate (t 8) None) ∷ done (Begin (t 8)) ∷ (Read (t 7) (x 1), Value (pos 100)) ∷ (Read (t 8) (x 1), Value (pos 100)) ∷ [])

abbrev ReadersShareNothing : Type 0
ReadersShareNothing = (holds (applied two_readers) 7 1 Op'.Read ≡ true) × (holds (applied two_readers) 8 1 Op'.Read ≡ true) × (same_group two_readers 7 8 ≡ false)

readers_row : ReadersShareNothing
unfolding holds same_op op_of operations operated live end_of ended_by initiated initiated_by applied takes_effect actor partner joined_by met opens_for operates_on joins same_group both_ways linked lists
readers_row = (refl, refl, refl)

-- one who is not alone in its group may read what another wrote and has not committed
abbrev before_the_read : List Entry
before_the_read = reverse (done (Initiate (t 7) None) ∷ done (Begin (t 7)) ∷ done (Write (t 7) (x 1) (pos 50)) ∷ done (Initiate (t 8) None) ∷ done (Begin (t 8)) ∷ done (Permit (t 7) (t 8) (Listed (x 1 ∷ [])) read_only) ∷ [])

abbrev ReadsUnfinishedWork : Type 0
ReadsUnfinishedWork = (answer three (applied before_the_read) (Read (t 8) (x 1)) ≡ Answer (Value (pos 50))) × (source before_the_read 1 ≡ Some (2, record { owner = 7; object = 1; use_of = writes (pos 50) }))
    × (entry_at before_the_read 2 ≡ Some (Write (t 7) (x 1) (pos 50), Done)) × (end_of (applied before_the_read) 7 ≡ None)

unfinished_row : ReadsUnfinishedWork
unfolding answer rules_for unrefused first_refusal outcome_unless unknown ended not_running taken begun_before too_late no_object one_name missing_in missing_rule no_object_of is_unknown has_ended is_running is_completed is_committed has_begun may_commit class_completed commit_outcome free blocks allows openers opened_by permits_along reaches_opener permits permitted_by in_set numbers conflict op_of operations operated value value_after after_use was_aborted stands opening_value opening_at exists status status_of end_of ended_by live same_class has_outside_source has_outside class_arrows order_arrows doom_arrows dependencies dependency_by both_ways initiated begun completed initiated_by begun_by completed_by applied takes_effect among linked lists same_kind is_operation is_write operation_numbers numbered stands_on source entry_at
unfinished_row = (refl, refl, refl, refl)

-- with numbers in place of values a read is answered another value
abbrev NumbersAreOtherValues : Type 0
NumbersAreOtherValues = (answer three (applied before_the_read) (Read (t 7) (x 1)) ≡ Answer (Value (pos 50)))
    × (answer (zeroed three) (applied (renumbered before_the_read)) (writing 6 (Read (t 7) (x 1))) ≡ Answer (Value (pos 3)))

numbers_row : NumbersAreOtherValues
unfolding answer rules_for unrefused first_refusal outcome_unless unknown ended not_running taken begun_before too_late no_object one_name missing_in missing_rule no_object_of is_unknown has_ended is_running is_completed is_committed has_begun may_commit class_completed commit_outcome free blocks allows openers opened_by permits_along reaches_opener permits permitted_by in_set numbers conflict op_of operations operated value value_after after_use was_aborted stands opening_value opening_at exists status status_of end_of ended_by live same_class has_outside_source has_outside class_arrows order_arrows doom_arrows dependencies dependency_by both_ways initiated begun completed initiated_by begun_by completed_by applied takes_effect among linked lists same_kind zeroed renumbered writing reading source_number
numbers_row = (refl, refl)

-- A reader commits, whom an uncommitted writer let read what it wrote: alone it would read the opening value, so the serial
-- history is not legal. It is not enough that those who committed share nothing among themselves.
sharing_breaks_it : ¬ IsLegal three (serial permitted)
unfolding IsLegal serial entries_of committed_names committed_by actor same_kind answer rules_for unrefused first_refusal outcome_unless unknown ended not_running taken begun_before too_late no_object one_name missing_in missing_rule no_object_of is_unknown has_ended is_running is_completed is_committed has_begun may_commit class_completed commit_outcome free blocks allows openers opened_by permits_along reaches_opener permits permitted_by in_set numbers conflict op_of operations operated value value_after after_use was_aborted stands opening_value opening_at exists status status_of end_of ended_by live same_class has_outside_source has_outside class_arrows order_arrows doom_arrows dependencies dependency_by both_ways initiated begun completed initiated_by begun_by completed_by applied takes_effect among linked lists
sharing_breaks_it legal = let read = legal.1.1.0 in cc

-- Two groups, one of which commits in two parts: 8 shares with 7, and 9 with nobody. 9 reads what 7 committed, and 8 what
-- 9 committed. So neither order of the groups gives the values that were read: 7 and 8 before 9, or 9 before 7 and 8.
abbrev group_before : List Step
group_before = Initiate (t 7) None ∷ Begin (t 7) ∷ Initiate (t 8) None ∷ Begin (t 8) ∷ Permit (t 7) (t 8) (Listed (x 3 ∷ [])) read_only ∷ Write (t 7) (x 1) (pos 50) ∷ Complete (t 7) ∷ Commit (t 7) ∷ []

abbrev group_after : List Step
group_after = Read (t 8) (x 2) ∷ Complete (t 8) ∷ Commit (t 8) ∷ []

abbrev stranger : List Step
stranger = Initiate (t 9) None ∷ Begin (t 9) ∷ Read (t 9) (x 1) ∷ Write (t 9) (x 2) (pos 60) ∷ Complete (t 9) ∷ Commit (t 9) ∷ []

abbrev CommitInParts : Type 0
CommitInParts = Case (group_before ++ stranger ++ group_after)
    (ok ∷ ok ∷ ok ∷ ok ∷ ok ∷ ok ∷ ok ∷ Answer Committed ∷ ok ∷ ok ∷ Answer (Value (pos 50)) ∷ ok ∷ ok ∷ Answer Committed ∷ Answer (Value (pos 60)) ∷ ok ∷ Answer Committed ∷ [])

abbrev GroupFirst : Type 0
GroupFirst = Case (group_before ++ group_after ++ stranger)
    (ok ∷ ok ∷ ok ∷ ok ∷ ok ∷ ok ∷ ok ∷ Answer Committed ∷ Answer (Value (pos 200)) ∷ ok ∷ Answer Committed ∷ ok ∷ ok ∷ Answer (Value (pos 50)) ∷ ok ∷ ok ∷ Answer Committed ∷ [])

abbrev StrangerFirst : Type 0
StrangerFirst = Case (stranger ++ group_before ++ group_after)
    (ok ∷ ok ∷ Answer (Value (pos 100)) ∷ ok ∷ ok ∷ Answer Committed ∷ ok ∷ ok ∷ ok ∷ ok ∷ ok ∷ ok ∷ ok ∷ Answer Committed ∷ Answer (Value (pos 60)) ∷ ok ∷ Answer Committed ∷ [])

in_parts_row : CommitInParts × GroupFirst × StrangerFirst
unfolding answer rules_for unrefused first_refusal outcome_unless unknown ended not_running taken begun_before too_late no_object one_name missing_in missing_rule no_object_of is_unknown has_ended is_running is_completed is_committed has_begun may_commit class_completed commit_outcome free blocks allows openers opened_by permits_along reaches_opener permits permitted_by in_set numbers conflict op_of operations operated value value_after after_use was_aborted stands opening_value opening_at exists status status_of end_of ended_by live same_class has_outside_source has_outside class_arrows order_arrows doom_arrows dependencies dependency_by both_ways initiated begun completed initiated_by begun_by completed_by applied takes_effect among linked lists same_kind
in_parts_row = (refl, refl, refl)

-- A live transaction that adds to an object, and holds it by no write, changes the value that those who committed left in it.
abbrev one_adds : List Entry
one_adds = reverse (done (Initiate (t 7) None) ∷ done (Begin (t 7)) ∷ done (Add (t 7) (x 1) (pos 5)) ∷ [])

abbrev LiveAddIsNotSettled : Type 0
LiveAddIsNotSettled = (holds (applied one_adds) 7 1 Op'.Write ≡ false) × (value three (applied one_adds) 1 ≡ pos 105) × (value three (applied (serial one_adds)) 1 ≡ pos 100)

live_add_row : LiveAddIsNotSettled
unfolding holds same_op op_of operations operated value value_after after_use int_wrap was_aborted stands opening_value opening_at live end_of ended_by initiated initiated_by applied takes_effect lists serial entries_of committed_names committed_by actor
live_add_row = (refl, refl, refl)
