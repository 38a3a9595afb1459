-- Worked rows of groups, deletion and sources, computed on the definitions.
use Rattle.std.specs.Prelude.{◌≡◌, pos, true, false, List, [], ◌∷◌, ◌++◌, None, Some, reverse, refl}
use Rattle.asset_names.specs.declared.sets.ObSet.TheVariants.{Listed}
use Rattle.asset_names.specs.declared.steps.Kind.TheVariants.{Ad, Gc}
use Rattle.asset_names.specs.declared.steps.Step.{Step}
use Rattle.asset_names.specs.declared.steps.Step.TheVariants.{Initiate, Begin, Read, Write, Complete, Permit, Delegate, Depend, Commit, Abort, PermitAny, Add}
use Rattle.asset_names.specs.declared.replies.Refusal.TheVariants.{Ended}
use Rattle.asset_names.specs.declared.replies.Reply.TheVariants.{Done, Value, Committed, Aborted, Refused}
use Rattle.asset_names.specs.Arrows.{lists, linked, among}
use Rattle.asset_names.specs.InSet.{in_set}
use Rattle.asset_names.specs.Sets.{numbers}
use Rattle.asset_names.specs.Paths.{same_kind, both_ways}
use Rattle.asset_names.specs.Steps.{Entry, takes_effect, applied, initiated_by, initiated}
use Rattle.asset_names.specs.Endings.{dependency_by, dependencies, class_arrows, doom_arrows, ended_by, end_of}
use Rattle.asset_names.specs.Operations.{writes, handed_over, operated, operations, was_aborted, stands, adds}
use Rattle.asset_names.specs.Groups.{actor, partner, joined_by, met, opens_for, operates_on, joins, same_group, acted_on_by, acted_on, was_committed, dead, stays, kept, without}
use Rattle.asset_names.specs.Sources.{is_operation, is_write, operation_numbers, numbered, stands_on, source, is_add, adds_on, added_on, added}
use Rattle.asset_names.proofs.Cases.{t, x}
use Rattle.asset_names.proofs.PermitCases.{read_only}

-- an entry that was done, and three transactions that run
abbrev pub done : Step → Entry
done step = (step, Done)

abbrev three_run : List Entry
three_run = done (Initiate (t 7) None) ∷ done (Begin (t 7)) ∷ done (Initiate (t 8) None) ∷ done (Begin (t 8)) ∷ done (Initiate (t 9) None) ∷ done (Begin (t 9)) ∷ []

-- a delegation joins its two transactions, and the source of a delegated write is the entry that wrote it
abbrev delegated_write : List Entry
delegated_write = reverse (three_run ++ done (Write (t 7) (x 1) (pos 50)) ∷ done (Delegate (t 7) (t 8) (Listed (x 1 ∷ []))) ∷ (Abort (t 7), Aborted) ∷ done (Complete (t 8)) ∷ (Commit (t 8), Committed) ∷ [])

abbrev DelegatedWrite : Type 0
DelegatedWrite = (same_group delegated_write 7 8 ≡ true) × (same_group delegated_write 7 9 ≡ false) × (dead delegated_write 7 ≡ false) × (dead delegated_write 9 ≡ true)
    × (source delegated_write 1 ≡ Some (6, record { owner = 8; object = 1; use_of = writes (pos 50) }))

-- a refused permit joins its two transactions
abbrev refused_permit : List Entry
refused_permit = reverse (done (Initiate (t 7) None) ∷ done (Begin (t 7)) ∷ done (Initiate (t 9) None) ∷ done (Begin (t 9)) ∷ (Abort (t 9), Aborted)
    ∷ (Permit (t 7) (t 9) (Listed (x 1 ∷ [])) read_only, Refused (Ended (t 9))) ∷ done (Complete (t 7)) ∷ (Commit (t 7), Committed) ∷ [])

abbrev RefusedPermitJoins : Type 0
RefusedPermitJoins = (same_group refused_permit 9 7 ≡ true) × (dead refused_permit 9 ≡ false) × (stays refused_permit (7 ∷ 9 ∷ []) 7 ≡ true)

-- dead groups go, all of them or those with a chosen transaction; the chosen 9 has committed, and 55 does not occur
abbrev up_to_abort : List Entry
up_to_abort = three_run ++ done (Write (t 7) (x 1) (pos 11)) ∷ done (Write (t 8) (x 2) (pos 22)) ∷ (Read (t 9) (x 3), Value (pos 300)) ∷ done (Write (t 9) (x 3) (pos 33)) ∷ (Abort (t 7), Aborted) ∷ []

abbrev three_groups : List Entry
three_groups = reverse (up_to_abort ++ (Read (t 9) (x 1), Value (pos 100)) ∷ done (Complete (t 9)) ∷ (Commit (t 9), Committed) ∷ [])

abbrev DeadGroupsDeleted : Type 0
DeadGroupsDeleted =
    (without three_groups (7 ∷ 8 ∷ 9 ∷ []) ≡ reverse (done (Initiate (t 9) None) ∷ done (Begin (t 9)) ∷ (Read (t 9) (x 3), Value (pos 300)) ∷ done (Write (t 9) (x 3) (pos 33))
    ∷ (Read (t 9) (x 1), Value (pos 100)) ∷ done (Complete (t 9)) ∷ (Commit (t 9), Committed) ∷ []))
    × (without three_groups (7 ∷ 9 ∷ 55 ∷ []) ≡ reverse (done (Initiate (t 8) None) ∷ done (Begin (t 8)) ∷ done (Initiate (t 9) None) ∷ done (Begin (t 9)) ∷ done (Write (t 8) (x 2) (pos 22))
    ∷ (Read (t 9) (x 3), Value (pos 300)) ∷ done (Write (t 9) (x 3) (pos 33)) ∷ (Read (t 9) (x 1), Value (pos 100)) ∷ done (Complete (t 9)) ∷ (Commit (t 9), Committed) ∷ []))
    × (source (reverse up_to_abort) 1 ≡ None) × (source (reverse up_to_abort) 3 ≡ Some (9, record { owner = 9; object = 3; use_of = writes (pos 33) }))

-- a parent is not acted on
abbrev with_parent : List Entry
with_parent = reverse (done (Initiate (t 7) None) ∷ done (Begin (t 7)) ∷ done (Initiate (t 8) (Some (t 7))) ∷ done (Begin (t 8)) ∷ done (Complete (t 8)) ∷ (Commit (t 8), Committed) ∷ [])

abbrev ParentJoinsNobody : Type 0
ParentJoinsNobody = (same_group with_parent 7 8 ≡ false) × (dead with_parent 7 ≡ true)
    × (without with_parent (7 ∷ 8 ∷ []) ≡ reverse (done (Initiate (t 8) (Some (t 7))) ∷ done (Begin (t 8)) ∷ done (Complete (t 8)) ∷ (Commit (t 8), Committed) ∷ []))

-- nothing is left if nobody has committed
abbrev nobody_committed : List Entry
nobody_committed = reverse (done (Initiate (t 7) None) ∷ done (Initiate (t 8) None) ∷ done (Initiate (t 9) None) ∷ done (Depend Ad (t 7) (t 8)) ∷ done (Depend Gc (t 8) (t 9)) ∷ (Abort (t 7), Aborted) ∷ (Commit (t 9), Aborted) ∷ [])

abbrev NobodyCommitted : Type 0
NobodyCommitted = (same_group nobody_committed 7 9 ≡ true) × (dead nobody_committed 9 ≡ true) × (without nobody_committed (9 ∷ []) ≡ [])

-- an open permit joins its giver with who operates on what it opens, later or earlier, and with nobody else
abbrev opened_object : List Entry
opened_object = reverse (three_run ++ done (Write (t 7) (x 1) (pos 50)) ∷ done (PermitAny (t 7) (x 1 ∷ []) read_only) ∷ (Read (t 8) (x 1), Value (pos 50)) ∷ (Read (t 9) (x 2), Value (pos 200)) ∷ (Abort (t 7), Aborted) ∷ done (Complete (t 8)) ∷ (Commit (t 8), Committed) ∷ [])

abbrev read_object : List Entry
read_object = reverse (three_run ++ (Read (t 8) (x 1), Value (pos 100)) ∷ (Read (t 9) (x 2), Value (pos 200)) ∷ done (PermitAny (t 7) (x 1 ∷ []) read_only) ∷ [])

abbrev OpenPermitJoins : Type 0
OpenPermitJoins = (same_group opened_object 7 8 ≡ true) × (same_group opened_object 7 9 ≡ false) × (dead opened_object 7 ≡ false) × (dead opened_object 9 ≡ true)
    × (same_group read_object 7 8 ≡ true) × (same_group read_object 7 9 ≡ false)

-- adds of two transactions join nobody, and are no sources
abbrev added_object : List Entry
added_object = reverse (three_run ++ done (Add (t 7) (x 1) (pos 5)) ∷ done (Add (t 8) (x 1) (pos 7)) ∷ done (Complete (t 8)) ∷ (Commit (t 8), Committed) ∷ (Read (t 7) (x 1), Value (pos 112)) ∷ (Abort (t 7), Aborted) ∷ (Read (t 9) (x 1), Value (pos 107)) ∷ [])

abbrev AddsJoinNobody : Type 0
AddsJoinNobody = (same_group added_object 7 8 ≡ false) × (dead added_object 7 ≡ true) × (dead added_object 8 ≡ false) × (source added_object 1 ≡ None)
    × (added added_object 1 ≡ (7, record { owner = 8; object = 1; use_of = adds (pos 7) }) ∷ [])
    × (without added_object (7 ∷ 8 ∷ 9 ∷ []) ≡ reverse (done (Initiate (t 8) None) ∷ done (Begin (t 8)) ∷ done (Add (t 8) (x 1) (pos 7)) ∷ done (Complete (t 8)) ∷ (Commit (t 8), Committed) ∷ []))

delegated_row : DelegatedWrite
unfolding in_set numbers handed_over operations operated was_aborted stands end_of ended_by class_arrows doom_arrows dependencies dependency_by both_ways same_kind initiated initiated_by applied takes_effect among linked lists actor partner joined_by met opens_for operates_on joins same_group acted_on_by acted_on was_committed dead stays kept without is_operation is_write operation_numbers numbered stands_on source
delegated_row = (refl, refl, refl, refl, refl)

refused_row : RefusedPermitJoins
unfolding in_set numbers handed_over operations operated was_aborted stands end_of ended_by class_arrows doom_arrows dependencies dependency_by both_ways same_kind initiated initiated_by applied takes_effect among linked lists actor partner joined_by met opens_for operates_on joins same_group acted_on_by acted_on was_committed dead stays kept without is_operation is_write operation_numbers numbered stands_on source
refused_row = (refl, refl, refl)

deleted_row : DeadGroupsDeleted
unfolding in_set numbers handed_over operations operated was_aborted stands end_of ended_by class_arrows doom_arrows dependencies dependency_by both_ways same_kind initiated initiated_by applied takes_effect among linked lists actor partner joined_by met opens_for operates_on joins same_group acted_on_by acted_on was_committed dead stays kept without is_operation is_write operation_numbers numbered stands_on source
deleted_row = (refl, refl, refl, refl)

parent_row : ParentJoinsNobody
unfolding in_set numbers handed_over operations operated was_aborted stands end_of ended_by class_arrows doom_arrows dependencies dependency_by both_ways same_kind initiated initiated_by applied takes_effect among linked lists actor partner joined_by met opens_for operates_on joins same_group acted_on_by acted_on was_committed dead stays kept without is_operation is_write operation_numbers numbered stands_on source
parent_row = (refl, refl, refl)

nobody_row : NobodyCommitted
unfolding in_set numbers handed_over operations operated was_aborted stands end_of ended_by class_arrows doom_arrows dependencies dependency_by both_ways same_kind initiated initiated_by applied takes_effect among linked lists actor partner joined_by met opens_for operates_on joins same_group acted_on_by acted_on was_committed dead stays kept without is_operation is_write operation_numbers numbered stands_on source
nobody_row = (refl, refl, refl)

open_row : OpenPermitJoins
unfolding in_set numbers handed_over operations operated was_aborted stands end_of ended_by class_arrows doom_arrows dependencies dependency_by both_ways same_kind initiated initiated_by applied takes_effect among linked lists actor partner joined_by met opens_for operates_on joins same_group acted_on_by acted_on was_committed dead stays kept without is_operation is_write operation_numbers numbered stands_on source
open_row = (refl, refl, refl, refl, refl, refl)

add_row : AddsJoinNobody
unfolding in_set numbers handed_over operations operated was_aborted stands end_of ended_by class_arrows doom_arrows dependencies dependency_by both_ways same_kind initiated initiated_by applied takes_effect among linked lists actor partner joined_by met opens_for operates_on joins same_group acted_on_by acted_on was_committed dead stays kept without is_operation is_write operation_numbers numbered stands_on source is_add adds_on added_on added
add_row = (refl, refl, refl, refl, refl, refl)
