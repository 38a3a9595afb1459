-- Worked rows, computed on the definitions.
use Rattle.std.specs.Prelude.{◌≡◌, ℕ, pos, true, false, List, [], ◌∷◌, Some, None, refl}
use Rattle.asset_names.specs.declared.names.Txn.{Txn}
use Rattle.asset_names.specs.declared.names.Ob.{Ob}
use Rattle.asset_names.specs.declared.steps.Step.{Step}
use Rattle.asset_names.specs.declared.steps.Step.TheVariants.{Initiate, Begin, Read, Write, Complete, Commit, Abort, WaitFor}
use Rattle.asset_names.specs.declared.replies.Refusal.{Refusal}
use Rattle.asset_names.specs.declared.replies.Refusal.TheVariants.{Unknown, Ended, NotRunning, Taken, Begun, NoObject, TooLate}
use Rattle.asset_names.specs.declared.replies.Reply.TheVariants.{Done, Value, Committed, Aborted, Refused}
use Rattle.asset_names.specs.declared.replies.Outcome.{Outcome}
use Rattle.asset_names.specs.declared.replies.Outcome.TheVariants.{Answer, Wait}
use Rattle.asset_names.specs.Arrows.{lists, linked, among}
use Rattle.asset_names.specs.Paths.{both_ways, has_outside}
use Rattle.asset_names.specs.Steps.{Opening, Entry, takes_effect, applied, initiated_by, initiated, begun_by, begun, completed_by, completed}
use Rattle.asset_names.specs.Endings.{dependency_by, dependencies, class_arrows, order_arrows, doom_arrows, has_outside_source, ended_by, end_of, live, status_of, status, same_class}
use Rattle.asset_names.specs.Operations.{op_of, conflict, operated, operations, permits, permitted_by, openers, opened_by, permits_along, reaches_opener, allows, blocks, free, was_aborted, stands, exists, opening_at, opening_value, after_use, value_after, value}
use Rattle.asset_names.specs.Room.{owed, owed_to, fits}
use Rattle.asset_names.specs.Answers.{is_unknown, has_ended, is_running, is_completed, is_committed, has_begun, unknown, ended, not_running, taken, begun_before, too_late, no_object, rules_for, first_refusal, may_commit, class_completed, commit_outcome, wait_outcome, unrefused, outcome_unless, answer}

abbrev pub t : ℕ → Txn
t n = record { 0 = n }

abbrev pub x : ℕ → Ob
x n = record { 0 = n }

-- the entry that an outcome adds
abbrev pub with_outcome : Step → Outcome → List Entry → List Entry
with_outcome step (Answer reply) entries = (step, reply) ∷ entries
with_outcome step Wait entries = entries

-- the outcomes of steps that are asked one after another
abbrev pub outcomes : Opening → List Entry → List Step → List Outcome
outcomes opening entries [] = []
outcomes opening entries (step ∷ steps) = answer opening (applied entries) step ∷ outcomes opening (with_outcome step (answer opening (applied entries) step) entries) steps

abbrev pub refused : Refusal → Outcome
refused refusal = Answer (Refused refusal)

abbrev pub three : Opening
three = (x 1, pos 100) ∷ (x 2, pos 200) ∷ (x 3, pos 300) ∷ []

abbrev pub ok : Outcome
ok = Answer Done

-- over three objects with 100, 200 and 300, these steps have these outcomes
abbrev pub Case : List Step → List Outcome → Type 0
Case steps expected = outcomes three [] steps ≡ expected

-- one transaction reads, writes, completes and commits
abbrev OneTransaction : Type 0
OneTransaction = Case
    (Initiate (t 7) None ∷ Begin (t 7) ∷ Read (t 7) (x 1) ∷ Write (t 7) (x 1) (pos 50) ∷ Read (t 7) (x 1) ∷ Complete (t 7) ∷ Commit (t 7) ∷ [])
    (ok ∷ ok ∷ Answer (Value (pos 100)) ∷ ok ∷ Answer (Value (pos 50)) ∷ ok ∷ Answer Committed ∷ [])

-- a writer blocks a reader and another writer until it commits
abbrev WriterBlocks : Type 0
WriterBlocks = Case
    (Initiate (t 7) None ∷ Begin (t 7) ∷ Initiate (t 8) None ∷ Begin (t 8) ∷ Write (t 7) (x 1) (pos 50) ∷ Read (t 8) (x 1) ∷ Write (t 8) (x 1) (pos 60) ∷ Read (t 8) (x 2) ∷ Complete (t 7) ∷ Read (t 8) (x 1) ∷ Commit (t 7) ∷ Read (t 8) (x 1) ∷ [])
    (ok ∷ ok ∷ ok ∷ ok ∷ ok ∷ Wait ∷ Wait ∷ Answer (Value (pos 200)) ∷ ok ∷ Wait ∷ Answer Committed ∷ Answer (Value (pos 50)) ∷ [])

-- two readers share an object, and neither may write it
abbrev ReadersShare : Type 0
ReadersShare = Case
    (Initiate (t 7) None ∷ Begin (t 7) ∷ Initiate (t 8) None ∷ Begin (t 8) ∷ Read (t 7) (x 3) ∷ Read (t 8) (x 3) ∷ Write (t 7) (x 3) (pos 1) ∷ Write (t 8) (x 3) (pos 2) ∷ [])
    (ok ∷ ok ∷ ok ∷ ok ∷ Answer (Value (pos 300)) ∷ Answer (Value (pos 300)) ∷ Wait ∷ Wait ∷ [])

-- which refusal comes first
abbrev RefusalsInOrder : Type 0
RefusalsInOrder = Case
    (Begin (t 5) ∷ Initiate (t 7) None ∷ Read (t 7) (x 9) ∷ Begin (t 7) ∷ Begin (t 7) ∷ Initiate (t 7) None ∷ Read (t 5) (x 9) ∷ Read (t 7) (x 9) ∷ Complete (t 7) ∷ Write (t 7) (x 9) (pos 1) ∷ Complete (t 7) ∷ Commit (t 7) ∷ Begin (t 7) ∷ Complete (t 7) ∷ Commit (t 7) ∷ Commit (t 5) ∷ [])
    (refused (Unknown (t 5)) ∷ ok ∷ refused (NotRunning (t 7)) ∷ ok ∷ refused (Begun (t 7)) ∷ refused (Taken (t 7)) ∷ refused (Unknown (t 5)) ∷ refused (NoObject (x 9)) ∷ ok ∷ refused (NotRunning (t 7)) ∷ refused (NotRunning (t 7)) ∷ Answer Committed ∷ refused (Ended (t 7)) ∷ refused (Ended (t 7)) ∷ Answer Committed ∷ refused (Unknown (t 5)) ∷ [])

-- a commit waits until the transaction has completed
abbrev CommitWaits : Type 0
CommitWaits = Case
    (Initiate (t 6) None ∷ Commit (t 6) ∷ Begin (t 6) ∷ Commit (t 6) ∷ Complete (t 6) ∷ Commit (t 6) ∷ [])
    (ok ∷ Wait ∷ ok ∷ Wait ∷ ok ∷ Answer Committed ∷ [])

-- a parent's name is not looked up, and its transaction may end first
abbrev ParentIsRecorded : Type 0
ParentIsRecorded = Case
    (Initiate (t 7) None ∷ Begin (t 7) ∷ Initiate (t 8) (Some (t 7)) ∷ Begin (t 8) ∷ Complete (t 8) ∷ Commit (t 8) ∷ Initiate (t 9) (Some (t 3)) ∷ [])
    (ok ∷ ok ∷ ok ∷ ok ∷ ok ∷ Answer Committed ∷ ok ∷ [])

-- a reader waits for a writer, and reads the opening value once the writer has aborted
abbrev ReaderWaitsForAbort : Type 0
ReaderWaitsForAbort = Case
    (Initiate (t 7) None ∷ Begin (t 7) ∷ Initiate (t 8) None ∷ Begin (t 8) ∷ Write (t 7) (x 1) (pos 50) ∷ Read (t 8) (x 1) ∷ Abort (t 7) ∷ Read (t 8) (x 1) ∷ [])
    (ok ∷ ok ∷ ok ∷ ok ∷ ok ∷ Wait ∷ Answer Aborted ∷ Answer (Value (pos 100)) ∷ [])

-- what may be asked of a transaction that has ended
abbrev AfterTheEnd : Type 0
AfterTheEnd = Case
    (Initiate (t 7) None ∷ WaitFor (t 7) ∷ Begin (t 7) ∷ Complete (t 7) ∷ WaitFor (t 7) ∷ Commit (t 7) ∷ Abort (t 7) ∷ WaitFor (t 7) ∷ Initiate (t 8) None ∷ Abort (t 8) ∷ Abort (t 8) ∷ Commit (t 8) ∷ WaitFor (t 8) ∷ Begin (t 8) ∷ WaitFor (t 9) ∷ Abort (t 9) ∷ [])
    (ok ∷ Wait ∷ ok ∷ ok ∷ ok ∷ Answer Committed ∷ refused (TooLate (t 7)) ∷ Answer Committed ∷ ok ∷ Answer Aborted ∷ Answer Aborted ∷ Answer Aborted ∷ Answer Aborted ∷ refused (Ended (t 8)) ∷ refused (Unknown (t 9)) ∷ refused (Unknown (t 9)) ∷ [])

-- a write that was committed stands under one that was aborted
abbrev CommittedUnderAborted : Type 0
CommittedUnderAborted = Case
    (Initiate (t 7) None ∷ Begin (t 7) ∷ Write (t 7) (x 1) (pos 50) ∷ Complete (t 7) ∷ Commit (t 7) ∷ Initiate (t 8) None ∷ Begin (t 8) ∷ Write (t 8) (x 1) (pos 60) ∷ Abort (t 8) ∷ Initiate (t 9) None ∷ Begin (t 9) ∷ Read (t 9) (x 1) ∷ [])
    (ok ∷ ok ∷ ok ∷ ok ∷ Answer Committed ∷ ok ∷ ok ∷ ok ∷ Answer Aborted ∷ ok ∷ ok ∷ Answer (Value (pos 50)) ∷ [])

-- a running name is owed two entries, a completed one is owed one, and one that has ended none
abbrev RoomIsOwed : Type 0
RoomIsOwed = (owed (Begin (t 7) ∷ Initiate (t 7) None ∷ []) ≡ 2) × (owed (Complete (t 7) ∷ Begin (t 7) ∷ Initiate (t 7) None ∷ []) ≡ 1)
    × (owed (Abort (t 7) ∷ Initiate (t 8) None ∷ Begin (t 7) ∷ Initiate (t 7) None ∷ []) ≡ 2) × (fits (Initiate (t 7) None ∷ []) 1 3 ≡ true) × (fits (Initiate (t 7) None ∷ []) 1 2 ≡ false)

rows : OneTransaction × WriterBlocks × ReadersShare × RefusalsInOrder × CommitWaits × ParentIsRecorded × ReaderWaitsForAbort × AfterTheEnd × CommittedUnderAborted × RoomIsOwed
unfolding owed owed_to fits answer rules_for unrefused first_refusal outcome_unless unknown ended not_running taken begun_before too_late no_object is_unknown has_ended is_running is_completed is_committed has_begun may_commit class_completed commit_outcome wait_outcome free blocks openers opened_by permits_along reaches_opener allows permits conflict op_of operations operated permitted_by value value_after after_use was_aborted stands opening_value opening_at exists status status_of end_of ended_by live same_class has_outside_source has_outside class_arrows order_arrows doom_arrows dependencies dependency_by both_ways initiated begun completed initiated_by begun_by completed_by applied takes_effect among linked lists
rows = (refl, refl, refl, refl, refl, refl, refl, refl, refl, (refl, refl, refl, refl, refl))
