-- The tables go on standing for the history with each step.
use Rattle.std.proofs.Common.{◌≡◌, ℕ, Bool, true, false, cond, eqb, ◌&&◌, ◌||◌, List, [], ◌∷◌, reverse, refl, sym, ◌∙◌, ap, subst, arith, Some, None}
use Rattle.std.specs.Prelude.{Option, ℤ, option_map, is_some, sum_by}
use Rattle.std.specs.Map.{values_of}
use Rattle.std.proofs.lemmas.Bool.{eqb-true}
use Rattle.std.proofs.lemmas.List.Sums.{sum_by_push, sum_by-cons}
use Rattle.asset_names.specs.declared.names.Txn.{Txn}
use Rattle.asset_names.specs.declared.names.Ob.{Ob}
use Rattle.asset_names.specs.declared.operations.Op.{Op}
use Rattle.asset_names.specs.declared.operations.Op.TheVariants as Op'
use Rattle.asset_names.specs.declared.statuses.Status.{Status}
use Rattle.asset_names.specs.declared.statuses.Status.TheVariants as Status'
use Rattle.asset_names.specs.declared.statuses.End.{End}
use Rattle.asset_names.specs.Counted.{ended_count}
use Rattle.asset_names.specs.declared.steps.Kind.{Kind}
use Rattle.asset_names.specs.declared.steps.Step.{Step}
use Rattle.asset_names.specs.declared.steps.Step.TheVariants.{Initiate, Begin, Read, Write, Add, Complete, Permit, PermitAny, Depend, Commit, Abort, WaitFor}
use Rattle.asset_names.specs.Arrows.{lists, has_arrow}
use Rattle.asset_names.specs.Steps.{Opening, initiated, initiated_by, begun, begun_by, completed, completed_by, parent_of, parent_by}
use Rattle.asset_names.specs.Endings.{dependencies, dependency_by, live, end_of, status, status_of, is_live_status}
use Rattle.asset_names.specs.Operations.{operations, operated, op_of, holds, permits, permitted_by, openers, opened_by, permits_along, allows, free, exists, value, value_if_any}
use Rattle.asset_names.specs.OpSets.{OpSet}
use Rattle.asset_names.specs.Operations.{Use}
use Rattle.asset_names.specs.Operations.Use.{reads, writes, adds}
use Rattle.asset_names.specs.Answers.{is_unknown}
use Rattle.asset_names.specs.Room.{owed, owed_to}
use Rattle.asset_names.specs.Orderly.{IsOrderly, Distinct}
use Rattle.asset_names.proofs.LiveLemmas.{live_by_status, status_initiate, status_begin, status_complete, status_commit, status_abort, live_commit, live_abort}
use Rattle.asset_names.proofs.EndLemmas.{commits, aborts, commits_live, aborts_live, commits_nobody, aborts_nobody, commit_ends, abort_ends}
use Rattle.asset_names.proofs.HolderLemmas.{free_allowed, allowed_free}
use Rattle.asset_names.proofs.RoomLemmas.{sum_same}
use Rattle.asset_names.specs.declared.sets.ObSet.{ObSet}
use Rattle.asset_names.specs.declared.sets.ObSet.TheVariants.{Listed}
use Rattle.asset_names.proofs.PermitLemmas.{along_linked}
use Rattle.asset_names.proofs.Common.{eqb-flip, both_follow}
use Rattle.asset_names.proofs.ListLemmas.{distinct_pushed}
use Rattle.asset_deps.specs.Dependencies.{Dependency, arrows_of}
use Rattle.asset_permits.specs.Descriptors.{Descriptor, leads_by, one_covers, opens, arrows_for}
use Rattle.asset_objects.specs.Cells.{Effect, Cell, Cells, opened, wrote, added, updated, placed, shown, value_in, undone, settled, change_at, change_each}
use Rattle.asset_locks.specs.LockTable as Locks
use Rattle.asset_trans.specs.declared.row.TransRow.{TransRow}
use Rattle.asset_trans.specs.TransRows.{NamedTransRow, names_of, row_in, status_in, status_or_unknown, parent_in, parent_or_none, initiate_in, set_in, owed_in, one_if_ended, ended_in}
use Rattle.asset_ends.specs.declared.updating.Update.{Update}
use Rattle.asset_ends.specs.declared.updating.Update.TheVariants as Update'
use Rattle.asset_ends.specs.Updates as Updates
use Rattle.asset_ends.specs.Updates.{step_of, effect_of}
use Rattle.asset_ends.specs.Standing.{allows_in}
use Rattle.asset_ends.specs.Shows.{Shows, used, cell_of, cell_after, permitted, is_opener, depended, table_values}
use Rattle.asset_permits.proofs.ArrowLaws.{arrows_stand}
use Rattle.asset_ends.specs.Ended.{PermitsGo, OpenersGo, DependenciesGo}
use Rattle.asset_ends.proofs.PermitLaws.{IsAdded, OpensSame, CoversSame, permitted_quiet, permitted_initiate, permitted_end, permitted_permit, permit_ends}
use Rattle.asset_ends.proofs.OpenerLaws.{IsWidened, opener_quiet, opener_initiate, opener_end, opener_opened, open_ends, reaches_shown}
use Rattle.asset_ends.proofs.DependLaws.{IsJoined, depended_quiet, depended_initiate, depended_end, depended_depend, depend_ends}
use Rattle.asset_ends.proofs.CellLemmas.{is_name, value_shown}
use Rattle.asset_ends.proofs.TransLaws.{names_set, status_set, parent_set, names_initiate, status_initiate_in, parent_initiate_in, row_named, row_absent, sum_by_names}
use Rattle.asset_ends.proofs.LockLaws.{carries_granted, carries_released, carries_enrolled, names_granted, names_waiting, carries_waiting, names_enrolled, names_released, free_by_locks, locks_by_free}
use Rattle.asset_ends.proofs.HistoryLemmas.{IsQuiet, lists_reverse, reverse-cons, cell_quiet, cell_same_steps, holds_quiet, holds_same_steps, enrolled_quiet, begin_quiet, complete_quiet, enrolled_initiate, cell_initiate, holds_initiate, holds_operation, holds_end, enrolled_end, read_ends, write_ends, add_ends, wait_ends, cell_read, cell_updated, cell_abort, cell_commit}

-- who is not unknown has a row
pub row_known : (rows : List NamedTransRow) (t : ℕ) → is_unknown (status_in rows t) ≡ false → is_some (row_in rows t) ≡ true
unfolding status_in status_or_unknown is_unknown
row_known rows t known = go (row_in rows t) known where
  go : (row : Option _) → is_unknown (status_or_unknown row) ≡ false → is_some row ≡ true
  go (Some row) h = refl
  go None h = sym h

-- one name that has a row gets a status
pub set_alone : (rows : List NamedTransRow) (t : ℕ) (after : Status) → is_unknown (status_in rows t) ≡ false → (n : ℕ)
    → status_in (set_in (is_name t) after rows) n ≡ cond (eqb t n) after (status_in rows n)
set_alone rows t after known n = status_set (is_name t) after rows n ∙ rw (eqb-flip n t) (go (eqb t n) refl) where
  go : (same : Bool) → eqb t n ≡ same → cond (same && is_some (row_in rows n)) after (status_in rows n) ≡ cond same after (status_in rows n)
  go false e = refl
  go true e = rw (subst (λ m. is_some (row_in rows m) ≡ true) (eqb-true t n e) (row_known rows t known)) refl

-- what was asked of statuses in the table is so in the history
changed_as : (rows : List NamedTransRow) (steps : List Step) (t : ℕ) (after : Status) (n : ℕ) → status_in rows n ≡ status steps n → cond (eqb t n) after (status_in rows n) ≡ cond (eqb t n) after (status steps n)
changed_as rows steps t after n is = rw is

-- the same change of the same cell
changed_at : (y : ℕ) (change : Cell → Cell) (one other : Cells) (x : ℕ) → one x ≡ other x → change_at y change one x ≡ change_at y change other x
unfolding change_at
changed_at y change one other x same = rw same

changed_each : (change : Cell → Cell) (one other : Cells) (x : ℕ) → one x ≡ other x → change_each change one x ≡ change_each change other x
unfolding change_each
changed_each change one other x same = rw same

-- an initiate
pub initiate_shows : (opening : Opening) (steps : List Step) (rows : List NamedTransRow) (objects : Cells) (table : Locks.LockTable) (descriptors : List Descriptor) (deps : List Dependency) (t : Txn) (parent : Option Txn) (seat : ℕ) → Shows opening steps (table_values rows objects table descriptors deps)
    → IsOrderly steps → lists (initiated steps) t.0 ≡ false → Shows opening (Initiate t parent ∷ steps) (table_values (initiate_in rows t parent seat) objects (Locks.enrol_in t.0 table) descriptors deps)
unfolding initiated initiated_by parent_of parent_by
initiate_shows opening steps rows objects table descriptors deps t parent seat shows orderly new = record {
  names = names_initiate rows t parent seat ∙ rw (shows.names, reverse-cons (initiated steps) t.0);
  statuses = λ n. status_initiate_in rows t parent seat n absent ∙ changed_as rows steps t.0 Status'.Initiated n (shows.statuses n) ∙ sym (status_initiate t parent steps n orderly new);
  parents = λ n. parent_initiate_in rows t parent seat n absent ∙ rw (shows.parents n);
  cells = λ x. shows.cells x ∙ sym (cell_initiate opening t parent steps x);
  enrolled = names_enrolled t.0 table ∙ rw shows.enrolled (enrolled_initiate t parent steps new);
  locks = λ n x op. carries_enrolled t.0 table n x op ∙ shows.locks n x op ∙ sym (holds_initiate t parent steps new orderly n x op);
  permits_stand = λ u n x op. shows.permits_stand u n x op ∙ sym (permitted_initiate t parent steps new orderly u n x op);
  openers_stand = λ u x op. shows.openers_stand u x op ∙ sym (opener_initiate t parent steps new orderly u x op);
  dependencies_stand = λ k m n. shows.dependencies_stand k m n ∙ sym (depended_initiate t parent steps new orderly k m n);
} where
  absent : row_in rows t.0 ≡ None
  absent = row_absent rows t.0 (rw (shows.names, lists_reverse (initiated steps) t.0) new)

-- a begin
pub begin_shows : (opening : Opening) (steps : List Step) (rows : List NamedTransRow) (objects : Cells) (table : Locks.LockTable) (descriptors : List Descriptor) (deps : List Dependency) (t : Txn) → Shows opening steps (table_values rows objects table descriptors deps)
    → status steps t.0 ≡ Status'.Initiated → Shows opening (Begin t ∷ steps) (table_values (set_in (is_name t.0) Status'.Running rows) objects table descriptors deps)
unfolding initiated initiated_by parent_of parent_by is_unknown permits permitted_by openers opened_by dependencies dependency_by
begin_shows opening steps rows objects table descriptors deps t shows before = record {
  names = names_set (is_name t.0) Status'.Running rows ∙ shows.names;
  statuses = λ n. set_alone rows t.0 Status'.Running (ap is_unknown (shows.statuses t.0 ∙ before)) n ∙ changed_as rows steps t.0 Status'.Running n (shows.statuses n) ∙ sym (status_begin t steps n before);
  parents = λ n. parent_set (is_name t.0) Status'.Running rows n ∙ shows.parents n;
  cells = λ x. shows.cells x ∙ sym (cell_quiet opening (Begin t ∷ steps) steps (begin_quiet t steps) x);
  enrolled = shows.enrolled ∙ sym (enrolled_quiet (Begin t ∷ steps) steps refl (begin_quiet t steps).ends);
  locks = λ n x op. shows.locks n x op ∙ sym (holds_quiet (Begin t ∷ steps) steps (begin_quiet t steps) n x op);
  permits_stand = λ u n x op. shows.permits_stand u n x op ∙ sym (permitted_quiet (Begin t ∷ steps) steps refl (begin_quiet t steps).ends (λ y o. refl) u n x op);
  openers_stand = λ u x op. shows.openers_stand u x op ∙ sym (opener_quiet (Begin t ∷ steps) steps refl (begin_quiet t steps).ends (λ y o. refl) u x op);
  dependencies_stand = λ k m n. shows.dependencies_stand k m n ∙ sym (depended_quiet (Begin t ∷ steps) steps refl (begin_quiet t steps).ends (λ y. refl) k m n);
}

-- a complete
pub complete_shows : (opening : Opening) (steps : List Step) (rows : List NamedTransRow) (objects : Cells) (table : Locks.LockTable) (descriptors : List Descriptor) (deps : List Dependency) (t : Txn) → Shows opening steps (table_values rows objects table descriptors deps)
    → status steps t.0 ≡ Status'.Running → Shows opening (Complete t ∷ steps) (table_values (set_in (is_name t.0) Status'.Completed rows) objects table descriptors deps)
unfolding initiated initiated_by parent_of parent_by is_unknown permits permitted_by openers opened_by dependencies dependency_by
complete_shows opening steps rows objects table descriptors deps t shows before = record {
  names = names_set (is_name t.0) Status'.Completed rows ∙ shows.names;
  statuses = λ n. set_alone rows t.0 Status'.Completed (ap is_unknown (shows.statuses t.0 ∙ before)) n ∙ changed_as rows steps t.0 Status'.Completed n (shows.statuses n) ∙ sym (status_complete t steps n before);
  parents = λ n. parent_set (is_name t.0) Status'.Completed rows n ∙ shows.parents n;
  cells = λ x. shows.cells x ∙ sym (cell_quiet opening (Complete t ∷ steps) steps (complete_quiet t steps) x);
  enrolled = shows.enrolled ∙ sym (enrolled_quiet (Complete t ∷ steps) steps refl (complete_quiet t steps).ends);
  locks = λ n x op. shows.locks n x op ∙ sym (holds_quiet (Complete t ∷ steps) steps (complete_quiet t steps) n x op);
  permits_stand = λ u n x op. shows.permits_stand u n x op ∙ sym (permitted_quiet (Complete t ∷ steps) steps refl (complete_quiet t steps).ends (λ y o. refl) u n x op);
  openers_stand = λ u x op. shows.openers_stand u x op ∙ sym (opener_quiet (Complete t ∷ steps) steps refl (complete_quiet t steps).ends (λ y o. refl) u x op);
  dependencies_stand = λ k m n. shows.dependencies_stand k m n ∙ sym (depended_quiet (Complete t ∷ steps) steps refl (complete_quiet t steps).ends (λ y. refl) k m n);
}

-- the status of a step that initiates, begins, completes and ends nobody
pub status_quiet : (step : Step) (steps : List Step) → initiated (step ∷ steps) ≡ initiated steps → begun (step ∷ steps) ≡ begun steps → completed (step ∷ steps) ≡ completed steps
    → ((n : ℕ) → end_of (step ∷ steps) n ≡ end_of steps n) → (n : ℕ) → status (step ∷ steps) n ≡ status steps n
unfolding status
status_quiet step steps i b c ends n = rw (i, b, c, ends n)

-- a read
pub read_shows : (opening : Opening) (steps : List Step) (rows : List NamedTransRow) (objects : Cells) (table : Locks.LockTable) (descriptors : List Descriptor) (deps : List Dependency) (t : Txn) (y : Ob) → Shows opening steps (table_values rows objects table descriptors deps)
    → live steps t.0 ≡ true → is_some (Locks.enrolled_in table t.0) ≡ true → Shows opening (Read t y ∷ steps) (table_values rows objects (Locks.grant_in t.0 y Op'.Read table) descriptors deps)
unfolding initiated initiated_by begun begun_by completed completed_by parent_of parent_by operations operated op_of permits permitted_by openers opened_by dependencies dependency_by
read_shows opening steps rows objects table descriptors deps t y shows alive different = record {
  names = shows.names;
  statuses = λ n. shows.statuses n ∙ sym (status_quiet (Read t y) steps refl refl refl (read_ends t y steps) n);
  parents = shows.parents;
  cells = λ x. shows.cells x ∙ sym (cell_read opening t y steps x);
  enrolled = names_granted t.0 y Op'.Read table ∙ shows.enrolled ∙ sym (enrolled_quiet (Read t y ∷ steps) steps refl (read_ends t y steps));
  locks = λ n x op. carries_granted t.0 y Op'.Read table n x op different ∙ rw (shows.locks n x op) (sym (holds_operation (Read t y) steps t.0 y.0 reads refl refl (read_ends t y steps) alive n x op));
  permits_stand = λ u n x op. shows.permits_stand u n x op ∙ sym (permitted_quiet (Read t y ∷ steps) steps refl (read_ends t y steps) (λ y o. refl) u n x op);
  openers_stand = λ u x op. shows.openers_stand u x op ∙ sym (opener_quiet (Read t y ∷ steps) steps refl (read_ends t y steps) (λ y o. refl) u x op);
  dependencies_stand = λ k m n. shows.dependencies_stand k m n ∙ sym (depended_quiet (Read t y ∷ steps) steps refl (read_ends t y steps) (λ y. refl) k m n);
}

-- a step of a live transaction that changes an object, and nothing beside its cell and the locks
changed_shows : (opening : Opening) (steps : List Step) (rows : List NamedTransRow) (objects : Cells) (table : Locks.LockTable) (descriptors : List Descriptor) (deps : List Dependency) (t : Txn) (y : Ob) (step : Step) (act : Use) (effect : Effect) → Shows opening steps (table_values rows objects table descriptors deps)
    → live steps t.0 ≡ true → is_some (Locks.enrolled_in table t.0) ≡ true
    → operations (step ∷ steps) ≡ record { owner = t.0; object = y.0; use_of = act } ∷ operations steps → ((cell : Cell) → used None t.0 act cell ≡ updated (Some t.0) effect cell) → ((n : ℕ) → end_of (step ∷ steps) n ≡ end_of steps n)
    → initiated (step ∷ steps) ≡ initiated steps → begun (step ∷ steps) ≡ begun steps → completed (step ∷ steps) ≡ completed steps → ((n : ℕ) → parent_of (step ∷ steps) n ≡ parent_of steps n)
    → ((x : ℕ) (op : Op) → permits (step ∷ steps) x op ≡ permits steps x op) → ((x : ℕ) (op : Op) → openers (step ∷ steps) x op ≡ openers steps x op) → ((k : Kind) → dependencies k (step ∷ steps) ≡ dependencies k steps)
    → Shows opening (step ∷ steps) (table_values rows (change_at y.0 (updated (Some t.0) effect) objects) (Locks.grant_in t.0 y (op_of act) table) descriptors deps)
changed_shows opening steps rows objects table descriptors deps t y step act effect shows alive different applied does ends initiates begins completes parents permitting opening_same depending = record {
  names = shows.names ∙ ap reverse (sym initiates);
  statuses = λ n. shows.statuses n ∙ sym (status_quiet step steps initiates begins completes ends n);
  parents = λ n. shows.parents n ∙ sym (parents n);
  cells = λ x. changed_at y.0 (updated (Some t.0) effect) objects (cell_of opening steps) x (shows.cells x) ∙ cell_updated opening step t.0 y.0 act effect steps x applied ends does alive;
  enrolled = names_granted t.0 y (op_of act) table ∙ shows.enrolled ∙ sym (enrolled_quiet (step ∷ steps) steps initiates ends);
  locks = λ n x op. carries_granted t.0 y (op_of act) table n x op different ∙ rw (shows.locks n x op) (sym (holds_operation step steps t.0 y.0 act applied initiates ends alive n x op));
  permits_stand = λ u n x op. shows.permits_stand u n x op ∙ sym (permitted_quiet (step ∷ steps) steps initiates ends permitting u n x op);
  openers_stand = λ u x op. shows.openers_stand u x op ∙ sym (opener_quiet (step ∷ steps) steps initiates ends opening_same u x op);
  dependencies_stand = λ k m n. shows.dependencies_stand k m n ∙ sym (depended_quiet (step ∷ steps) steps initiates ends depending k m n);
}

-- a write or an add
pub update_shows : (opening : Opening) (steps : List Step) (rows : List NamedTransRow) (objects : Cells) (table : Locks.LockTable) (descriptors : List Descriptor) (deps : List Dependency) (t : Txn) (y : Ob) (update : Update) (v : ℤ) → Shows opening steps (table_values rows objects table descriptors deps)
    → live steps t.0 ≡ true → is_some (Locks.enrolled_in table t.0) ≡ true
    → Shows opening (step_of update t y v ∷ steps) (table_values rows (change_at y.0 (updated (Some t.0) (effect_of update v)) objects) (Locks.grant_in t.0 y (Updates.op_of update) table) descriptors deps)
unfolding step_of effect_of Updates.op_of op_of used placed initiated initiated_by begun begun_by completed completed_by parent_of parent_by operations operated permits permitted_by openers opened_by dependencies dependency_by
update_shows opening steps rows objects table descriptors deps t y Update'.Write v shows alive different =
    changed_shows opening steps rows objects table descriptors deps t y (Write t y v) (writes v) (wrote v) shows alive different refl (λ cell. refl) (write_ends t y v steps) refl refl refl (λ n. refl) (λ x op. refl) (λ x op. refl) (λ k. refl)
update_shows opening steps rows objects table descriptors deps t y Update'.Add d shows alive different =
    changed_shows opening steps rows objects table descriptors deps t y (Add t y d) (adds d) (added d) shows alive different refl (λ cell. refl) (add_ends t y d steps) refl refl refl (λ n. refl) (λ x op. refl) (λ x op. refl) (λ k. refl)

-- some live transactions get a status
set_known : (test : ℕ → Bool) (after : Status) (rows : List NamedTransRow) (steps : List Step) → ((n : ℕ) → test n ≡ true → live steps n ≡ true) → (n : ℕ) → status_in rows n ≡ status steps n
    → status_in (set_in test after rows) n ≡ cond (test n) after (status steps n)
unfolding is_unknown is_live_status
set_known test after rows steps alive n is = status_set test after rows n ∙ rw is (go (test n) refl) where
  known : (status : Status) → is_live_status status ≡ true → is_unknown status ≡ false
  known Status'.Unknown h = sym h
  known Status'.Initiated h = refl
  known Status'.Running h = refl
  known Status'.Completed h = refl
  known Status'.Committed h = refl
  known Status'.Aborted h = refl

  go : (ends : Bool) → test n ≡ ends → cond (ends && is_some (row_in rows n)) after (status steps n) ≡ cond ends after (status steps n)
  go false e = refl
  go true e = rw (row_known rows n (known (status_in rows n) (ap is_live_status is ∙ sym (live_by_status steps n) ∙ alive n e))) refl

-- a commit: the tables after it, by the test of those whom it ends
pub commit_shows : (opening : Opening) (steps : List Step) (rows : List NamedTransRow) (objects : Cells) (table : Locks.LockTable) (descriptors : List Descriptor) (deps : List Dependency) (t : Txn) → Shows opening steps (table_values rows objects table descriptors deps) → (later : List Descriptor) → PermitsGo (commits steps t.0) descriptors later → OpenersGo (commits steps t.0) descriptors later
    → (left : List Dependency) → DependenciesGo (commits steps t.0) deps left → Shows opening (Commit t ∷ steps) (table_values (set_in (commits steps t.0) Status'.Committed rows) (change_each (settled (commits steps t.0)) objects) (Locks.release_in (commits steps t.0) table) later left)
unfolding initiated initiated_by parent_of parent_by operations operated permits permitted_by openers opened_by dependencies dependency_by
commit_shows opening steps rows objects table descriptors deps t shows later dropped closed left left_over = record {
  names = names_set (commits steps t.0) Status'.Committed rows ∙ shows.names;
  statuses = λ n. set_known (commits steps t.0) Status'.Committed rows steps (commits_live steps t.0) n (shows.statuses n) ∙ sym (status_commit t steps n);
  parents = λ n. parent_set (commits steps t.0) Status'.Committed rows n ∙ shows.parents n;
  cells = λ x. changed_each (settled (commits steps t.0)) objects (cell_of opening steps) x (shows.cells x) ∙ cell_commit opening t steps x;
  enrolled = names_released (commits steps t.0) table ∙ rw shows.enrolled (enrolled_end (Commit t ∷ steps) steps (commits steps t.0) refl (live_commit t steps));
  locks = λ n x op. carries_released (commits steps t.0) table n x op ∙ rw (shows.locks n x op) (sym (holds_end (Commit t) steps (commits steps t.0) refl (live_commit t steps) n x op));
  permits_stand = λ u n x op. dropped u n x op ∙ rw (shows.permits_stand u n x op) (sym (permitted_end (Commit t ∷ steps) steps (commits steps t.0) (live_commit t steps) (λ y o. refl) u n x op));
  openers_stand = λ u x op. closed u x op ∙ rw (shows.openers_stand u x op) (sym (opener_end (Commit t ∷ steps) steps (commits steps t.0) (live_commit t steps) (λ y o. refl) u x op));
  dependencies_stand = λ k m n. left_over k m n ∙ rw (shows.dependencies_stand k m n) (sym (depended_end (Commit t ∷ steps) steps (commits steps t.0) (live_commit t steps) (λ y. refl) k m n));
}

-- an abort: the tables after it, by the test of those whom it ends
pub abort_shows : (opening : Opening) (steps : List Step) (rows : List NamedTransRow) (objects : Cells) (table : Locks.LockTable) (descriptors : List Descriptor) (deps : List Dependency) (t : Txn) → Shows opening steps (table_values rows objects table descriptors deps) → (later : List Descriptor) → PermitsGo (aborts steps t.0) descriptors later → OpenersGo (aborts steps t.0) descriptors later
    → (left : List Dependency) → DependenciesGo (aborts steps t.0) deps left → Shows opening (Abort t ∷ steps) (table_values (set_in (aborts steps t.0) Status'.Aborted rows) (change_each (undone (aborts steps t.0)) objects) (Locks.release_in (aborts steps t.0) table) later left)
unfolding initiated initiated_by parent_of parent_by operations operated permits permitted_by openers opened_by dependencies dependency_by
abort_shows opening steps rows objects table descriptors deps t shows later dropped closed left left_over = record {
  names = names_set (aborts steps t.0) Status'.Aborted rows ∙ shows.names;
  statuses = λ n. set_known (aborts steps t.0) Status'.Aborted rows steps (aborts_live steps t.0) n (shows.statuses n) ∙ sym (status_abort t steps n);
  parents = λ n. parent_set (aborts steps t.0) Status'.Aborted rows n ∙ shows.parents n;
  cells = λ x. changed_each (undone (aborts steps t.0)) objects (cell_of opening steps) x (shows.cells x) ∙ cell_abort opening t steps x;
  enrolled = names_released (aborts steps t.0) table ∙ rw shows.enrolled (enrolled_end (Abort t ∷ steps) steps (aborts steps t.0) refl (live_abort t steps));
  locks = λ n x op. carries_released (aborts steps t.0) table n x op ∙ rw (shows.locks n x op) (sym (holds_end (Abort t) steps (aborts steps t.0) refl (live_abort t steps) n x op));
  permits_stand = λ u n x op. dropped u n x op ∙ rw (shows.permits_stand u n x op) (sym (permitted_end (Abort t ∷ steps) steps (aborts steps t.0) (live_abort t steps) (λ y o. refl) u n x op));
  openers_stand = λ u x op. closed u x op ∙ rw (shows.openers_stand u x op) (sym (opener_end (Abort t ∷ steps) steps (aborts steps t.0) (live_abort t steps) (λ y o. refl) u x op));
  dependencies_stand = λ k m n. left_over k m n ∙ rw (shows.dependencies_stand k m n) (sym (depended_end (Abort t ∷ steps) steps (aborts steps t.0) (live_abort t steps) (λ y. refl) k m n));
}

-- an end of a name that has ended changes nothing
quiet_shows : (opening : Opening) (step : Step) (steps : List Step) (rows : List NamedTransRow) (objects : Cells) (table : Locks.LockTable) (descriptors : List Descriptor) (deps : List Dependency) → Shows opening steps (table_values rows objects table descriptors deps)
    → begun (step ∷ steps) ≡ begun steps → completed (step ∷ steps) ≡ completed steps → ((n : ℕ) → parent_of (step ∷ steps) n ≡ parent_of steps n)
    → IsQuiet (step ∷ steps) steps → Shows opening (step ∷ steps) (table_values rows objects table descriptors deps)
quiet_shows opening step steps rows objects table descriptors deps shows b c p quiet = record {
  names = shows.names ∙ ap reverse (sym quiet.names);
  statuses = λ n. shows.statuses n ∙ sym (status_quiet step steps quiet.names b c quiet.ends n);
  parents = λ n. shows.parents n ∙ sym (p n);
  cells = λ x. shows.cells x ∙ sym (cell_quiet opening (step ∷ steps) steps quiet x);
  enrolled = shows.enrolled ∙ sym (enrolled_quiet (step ∷ steps) steps quiet.names quiet.ends);
  locks = λ n x op. shows.locks n x op ∙ sym (holds_quiet (step ∷ steps) steps quiet n x op);
  permits_stand = λ u n x op. shows.permits_stand u n x op ∙ sym (permitted_quiet (step ∷ steps) steps quiet.names quiet.ends quiet.arrows u n x op);
  openers_stand = λ u x op. shows.openers_stand u x op ∙ sym (opener_quiet (step ∷ steps) steps quiet.names quiet.ends quiet.opened u x op);
  dependencies_stand = λ k m n. shows.dependencies_stand k m n ∙ sym (depended_quiet (step ∷ steps) steps quiet.names quiet.ends quiet.kept k m n);
}

pub commit_again_shows : (opening : Opening) (steps : List Step) (rows : List NamedTransRow) (objects : Cells) (table : Locks.LockTable) (descriptors : List Descriptor) (deps : List Dependency) (t : Txn) → Shows opening steps (table_values rows objects table descriptors deps)
    → live steps t.0 ≡ false → Shows opening (Commit t ∷ steps) (table_values rows objects table descriptors deps)
unfolding initiated initiated_by begun begun_by completed completed_by parent_of parent_by operations operated permits permitted_by openers opened_by dependencies dependency_by
commit_again_shows opening steps rows objects table descriptors deps t shows dead =
    quiet_shows opening (Commit t) steps rows objects table descriptors deps shows refl refl (λ n. refl) (record { names = refl; applied = refl; arrows = λ x op. refl; opened = λ x op. refl; kept = λ k. refl; ends = λ n. commit_ends t steps n ∙ rw (commits_nobody steps t.0 n dead) refl })

pub abort_again_shows : (opening : Opening) (steps : List Step) (rows : List NamedTransRow) (objects : Cells) (table : Locks.LockTable) (descriptors : List Descriptor) (deps : List Dependency) (t : Txn) → Shows opening steps (table_values rows objects table descriptors deps)
    → live steps t.0 ≡ false → Shows opening (Abort t ∷ steps) (table_values rows objects table descriptors deps)
unfolding initiated initiated_by begun begun_by completed completed_by parent_of parent_by operations operated permits permitted_by openers opened_by dependencies dependency_by
abort_again_shows opening steps rows objects table descriptors deps t shows dead =
    quiet_shows opening (Abort t) steps rows objects table descriptors deps shows refl refl (λ n. refl) (record { names = refl; applied = refl; arrows = λ x op. refl; opened = λ x op. refl; kept = λ k. refl; ends = λ n. abort_ends t steps n ∙ rw (aborts_nobody steps t.0 n dead) refl })

-- a permit
pub permit_shows : (opening : Opening) (steps : List Step) (rows : List NamedTransRow) (objects : Cells) (table : Locks.LockTable) (descriptors : List Descriptor) (deps : List Dependency) (giver taker : Txn) (obs : ObSet) (ops : OpSet) → Shows opening steps (table_values rows objects table descriptors deps)
    → live steps giver.0 ≡ true → live steps taker.0 ≡ true → (later : List Descriptor) → IsAdded giver.0 taker.0 obs ops descriptors later → OpensSame descriptors later → Shows opening (Permit giver taker obs ops ∷ steps) (table_values rows objects table later deps)
unfolding initiated initiated_by begun begun_by completed completed_by parent_of parent_by operations operated openers opened_by dependencies dependency_by
permit_shows opening steps rows objects table descriptors deps giver taker obs ops shows gives takes later grown same = record {
  names = shows.names;
  statuses = λ n. shows.statuses n ∙ sym (status_quiet (Permit giver taker obs ops) steps refl refl refl (permit_ends giver taker obs ops steps) n);
  parents = shows.parents;
  cells = λ x. shows.cells x ∙ sym (cell_same_steps opening (Permit giver taker obs ops ∷ steps) steps refl (permit_ends giver taker obs ops steps) x);
  enrolled = shows.enrolled ∙ sym (enrolled_quiet (Permit giver taker obs ops ∷ steps) steps refl (permit_ends giver taker obs ops steps));
  locks = λ n x op. shows.locks n x op ∙ sym (holds_same_steps (Permit giver taker obs ops ∷ steps) steps refl refl (permit_ends giver taker obs ops steps) n x op);
  permits_stand = λ u n x op. grown u n x op ∙ rw (shows.permits_stand u n x op) (sym (permitted_permit giver taker obs ops steps gives takes u n x op));
  openers_stand = λ u x op. same u x op ∙ shows.openers_stand u x op ∙ sym (opener_quiet (Permit giver taker obs ops ∷ steps) steps refl (permit_ends giver taker obs ops steps) (λ y o. refl) u x op);
  dependencies_stand = λ k m n. shows.dependencies_stand k m n ∙ sym (depended_quiet (Permit giver taker obs ops ∷ steps) steps refl (permit_ends giver taker obs ops steps) (λ y. refl) k m n);
}

-- a permit to anybody
pub open_shows : (opening : Opening) (steps : List Step) (rows : List NamedTransRow) (objects : Cells) (table : Locks.LockTable) (descriptors : List Descriptor) (deps : List Dependency) (giver : Txn) (obs : List Ob) (ops : OpSet) → Shows opening steps (table_values rows objects table descriptors deps)
    → live steps giver.0 ≡ true → (later : List Descriptor) → CoversSame descriptors later → IsWidened giver.0 (Listed obs) ops descriptors later → Shows opening (PermitAny giver obs ops ∷ steps) (table_values rows objects table later deps)
unfolding initiated initiated_by begun begun_by completed completed_by parent_of parent_by operations operated permits permitted_by dependencies dependency_by
open_shows opening steps rows objects table descriptors deps giver obs ops shows gives later same widened = record {
  names = shows.names;
  statuses = λ n. shows.statuses n ∙ sym (status_quiet (PermitAny giver obs ops) steps refl refl refl (open_ends giver obs ops steps) n);
  parents = shows.parents;
  cells = λ x. shows.cells x ∙ sym (cell_same_steps opening (PermitAny giver obs ops ∷ steps) steps refl (open_ends giver obs ops steps) x);
  enrolled = shows.enrolled ∙ sym (enrolled_quiet (PermitAny giver obs ops ∷ steps) steps refl (open_ends giver obs ops steps));
  locks = λ n x op. shows.locks n x op ∙ sym (holds_same_steps (PermitAny giver obs ops ∷ steps) steps refl refl (open_ends giver obs ops steps) n x op);
  permits_stand = λ u n x op. same u n x op ∙ shows.permits_stand u n x op ∙ sym (permitted_quiet (PermitAny giver obs ops ∷ steps) steps refl (open_ends giver obs ops steps) (λ y o. refl) u n x op);
  openers_stand = λ u x op. widened u x op ∙ rw (shows.openers_stand u x op) (sym (opener_opened giver obs ops steps gives u x op));
  dependencies_stand = λ k m n. shows.dependencies_stand k m n ∙ sym (depended_quiet (PermitAny giver obs ops ∷ steps) steps refl (open_ends giver obs ops steps) (λ y. refl) k m n);
}

-- a dependency
pub depend_shows : (opening : Opening) (steps : List Step) (rows : List NamedTransRow) (objects : Cells) (table : Locks.LockTable) (descriptors : List Descriptor) (deps : List Dependency) (kind : Kind) (a b : Txn) → Shows opening steps (table_values rows objects table descriptors deps)
    → live steps a.0 ≡ true → live steps b.0 ≡ true → (later : List Dependency) → IsJoined kind a.0 b.0 deps later → Shows opening (Depend kind a b ∷ steps) (table_values rows objects table descriptors later)
unfolding initiated initiated_by begun begun_by completed completed_by parent_of parent_by operations operated permits permitted_by openers opened_by
depend_shows opening steps rows objects table descriptors deps kind a b shows one other later joined = record {
  names = shows.names;
  statuses = λ n. shows.statuses n ∙ sym (status_quiet (Depend kind a b) steps refl refl refl (depend_ends kind a b steps) n);
  parents = shows.parents;
  cells = λ x. shows.cells x ∙ sym (cell_same_steps opening (Depend kind a b ∷ steps) steps refl (depend_ends kind a b steps) x);
  enrolled = shows.enrolled ∙ sym (enrolled_quiet (Depend kind a b ∷ steps) steps refl (depend_ends kind a b steps));
  locks = λ n x op. shows.locks n x op ∙ sym (holds_same_steps (Depend kind a b ∷ steps) steps refl refl (depend_ends kind a b steps) n x op);
  permits_stand = λ u n x op. shows.permits_stand u n x op ∙ sym (permitted_quiet (Depend kind a b ∷ steps) steps refl (depend_ends kind a b steps) (λ y o. refl) u n x op);
  openers_stand = λ u x op. shows.openers_stand u x op ∙ sym (opener_quiet (Depend kind a b ∷ steps) steps refl (depend_ends kind a b steps) (λ y o. refl) u x op);
  dependencies_stand = λ k m n. joined k m n ∙ rw (shows.dependencies_stand k m n) (sym (depended_depend kind a b steps one other k m n));
}

-- who is live by the table is live
pub live_shown : (opening : Opening) (steps : List Step) (rows : List NamedTransRow) (objects : Cells) (table : Locks.LockTable) (descriptors : List Descriptor) (deps : List Dependency) (t : ℕ) → Shows opening steps (table_values rows objects table descriptors deps) → is_live_status (status_in rows t) ≡ live steps t
live_shown opening steps rows objects table descriptors deps t shows = ap is_live_status (shows.statuses t) ∙ sym (live_by_status steps t)

-- who allows whom by the rows and the descriptors does by the history
pub allows_shown : (opening : Opening) (steps : List Step) (rows : List NamedTransRow) (objects : Cells) (table : Locks.LockTable) (descriptors : List Descriptor) (deps : List Dependency) (u t x : ℕ) (op : Op) → Shows opening steps (table_values rows objects table descriptors deps)
    → allows_in rows descriptors u t x op ≡ allows steps u t x op
unfolding allows_in allows leads_by permitted permits_along
allows_shown opening steps rows objects table descriptors deps u t x op shows =
    let along : (m n : ℕ) → leads_by descriptors m n x op ≡ permits_along steps m n x op = along_linked steps x op (arrows_for descriptors x op) (λ m n. arrows_stand descriptors m n x op ∙ shows.permits_stand m n x op) in
    let reaches = reaches_shown descriptors steps x op (λ a. shows.openers_stand a x op) u (along u) in
    λ i. along u t i || (live_shown opening steps rows objects table descriptors deps t shows i && reaches i)

-- who is free by the tables is free by the history
pub free_shown : (opening : Opening) (steps : List Step) (rows : List NamedTransRow) (objects : Cells) (table : Locks.LockTable) (descriptors : List Descriptor) (deps : List Dependency) (t x : ℕ) (op : Op) → Shows opening steps (table_values rows objects table descriptors deps)
    → Locks.is_free_in table (λ u. allows_in rows descriptors u t x op) t x op ≡ free steps t x op
free_shown opening steps rows objects table descriptors deps t x op shows = both_follow _ _
    (λ is_free. allowed_free steps t x op (λ u other held conflicts apart. sym (alike u) ∙ free_by_locks table _ t x op is_free u other (shows.locks u x other ∙ held) conflicts apart))
    (λ is_free. locks_by_free table _ t x op (λ u other held conflicts apart. alike u ∙ free_allowed steps t x op is_free u other (sym (shows.locks u x other) ∙ held) conflicts apart)) where
      alike : (u : ℕ) → allows_in rows descriptors u t x op ≡ allows steps u t x op
      alike u = allows_shown opening steps rows objects table descriptors deps u t x op shows

-- the value that the tables show is that of the history
pub value_of_tables : (opening : Opening) (steps : List Step) (rows : List NamedTransRow) (objects : Cells) (table : Locks.LockTable) (descriptors : List Descriptor) (deps : List Dependency) (x : ℕ) → Shows opening steps (table_values rows objects table descriptors deps)
    → value_in objects x ≡ value_if_any opening steps x
unfolding value_in
value_of_tables opening steps rows objects table descriptors deps x shows = ap (option_map shown) (shows.cells x) ∙ value_shown opening steps x

-- different names are different in reverse

distinct_reverse : (names : List ℕ) → Distinct names → Distinct (reverse names)
distinct_reverse [] different = tt
distinct_reverse (n ∷ names) different = rw (reverse-cons names n) (distinct_pushed (reverse names) n (distinct_reverse names different.1) (lists_reverse names n ∙ different.0))

sum_by_reverse : (f : ℕ → ℕ) (names : List ℕ) → sum_by f (reverse names) ≡ sum_by f names
sum_by_reverse f [] = refl
sum_by_reverse f (n ∷ names) = rw (reverse-cons names n) (omega (arith, sum_by_push f (reverse names) n, sum_by_reverse f names, sum_by-cons f n names))

-- a sum over the statuses in the table is one over the transactions of the history
sum_shown : (f : Status → ℕ) (opening : Opening) (steps : List Step) (rows : List NamedTransRow) (objects : Cells) (table : Locks.LockTable) (descriptors : List Descriptor) (deps : List Dependency) → Shows opening steps (table_values rows objects table descriptors deps) → IsOrderly steps
    → sum_by (λ (row : TransRow). f row.status) (values_of rows) ≡ sum_by (λ n. f (status steps n)) (initiated steps)
sum_shown f opening steps rows objects table descriptors deps shows orderly =
    sum_by_names f rows (rw shows.names (distinct_reverse (initiated steps) orderly.different))
    ∙ sum_same (λ n. f (status steps n)) (λ n. f (status_in rows n)) (names_of rows) (λ n listed. ap f (shows.statuses n))
    ∙ rw shows.names (sum_by_reverse (λ n. f (status steps n)) (initiated steps))

-- what the table says is owed is owed
pub owed_shown : (opening : Opening) (steps : List Step) (rows : List NamedTransRow) (objects : Cells) (table : Locks.LockTable) (descriptors : List Descriptor) (deps : List Dependency) → Shows opening steps (table_values rows objects table descriptors deps) → IsOrderly steps → owed_in rows ≡ owed steps
unfolding owed owed_in
owed_shown opening steps rows objects table descriptors deps shows orderly = sum_shown owed_to opening steps rows objects table descriptors deps shows orderly

-- how many have ended by the table is how many have by the history
pub ended_shown : (how : End) (opening : Opening) (steps : List Step) (rows : List NamedTransRow) (objects : Cells) (table : Locks.LockTable) (descriptors : List Descriptor) (deps : List Dependency) → Shows opening steps (table_values rows objects table descriptors deps) → IsOrderly steps → ended_in how rows ≡ ended_count how steps
unfolding ended_in ended_count one_if_ended
ended_shown how opening steps rows objects table descriptors deps shows orderly = sum_shown (one_if_ended how) opening steps rows objects table descriptors deps shows orderly

-- which objects exist, by the tables
pub exists_shown : (opening : Opening) (steps : List Step) (rows : List NamedTransRow) (objects : Cells) (table : Locks.LockTable) (descriptors : List Descriptor) (deps : List Dependency) (x : ℕ) → Shows opening steps (table_values rows objects table descriptors deps)
    → is_some (value_in objects x) ≡ exists opening x
unfolding value_if_any
exists_shown opening steps rows objects table descriptors deps x shows = ap is_some (value_of_tables opening steps rows objects table descriptors deps x shows) ∙ go (exists opening x) where
  go : (there : Bool) → is_some (cond there (Some (value opening steps x)) None) ≡ there
  go true = refl
  go false = refl

-- the tables of an opening, before the first step
pub opened_shows : (opening : Opening) → Shows opening [] (table_values [] (opened opening) [] [] [])
unfolding arrows_of depended has_arrow dependencies one_covers opens permitted is_opener openers names_of initiated status_in row_in status_or_unknown parent_in parent_or_none parent_of opened cell_of cell_after operations Locks.names_in Locks.carries holds live end_of lists status status_of begun completed
opened_shows opening = record {
  names = refl;
  statuses = λ t. refl;
  parents = λ t. refl;
  cells = λ x. refl;
  enrolled = refl;
  locks = λ t x op. refl;
  permits_stand = λ u t x op. refl;
  openers_stand = λ u x op. refl;
  dependencies_stand = λ k u v. refl;
}

-- a name without a row was not initiated
pub new_name : (opening : Opening) (steps : List Step) (rows : List NamedTransRow) (objects : Cells) (table : Locks.LockTable) (descriptors : List Descriptor) (deps : List Dependency) (t : ℕ) → Shows opening steps (table_values rows objects table descriptors deps) → row_in rows t ≡ None → lists (initiated steps) t ≡ false
new_name opening steps rows objects table descriptors deps t shows none =
    sym (lists_reverse (initiated steps) t) ∙ ap (λ names. lists names t) (sym shows.names) ∙ sym (row_named rows t) ∙ ap is_some none

-- who runs by the table is live
pub running_live : (opening : Opening) (steps : List Step) (rows : List NamedTransRow) (objects : Cells) (table : Locks.LockTable) (descriptors : List Descriptor) (deps : List Dependency) (t : ℕ) → Shows opening steps (table_values rows objects table descriptors deps) → status_in rows t ≡ Status'.Running → live steps t ≡ true
unfolding is_live_status
running_live opening steps rows objects table descriptors deps t shows runs = live_by_status steps t ∙ ap is_live_status (sym (shows.statuses t) ∙ runs)

-- a wait for a name changes nothing
pub wait_shows : (opening : Opening) (steps : List Step) (rows : List NamedTransRow) (objects : Cells) (table : Locks.LockTable) (descriptors : List Descriptor) (deps : List Dependency) (t : Txn) → Shows opening steps (table_values rows objects table descriptors deps) → Shows opening (WaitFor t ∷ steps) (table_values rows objects table descriptors deps)
unfolding initiated initiated_by begun begun_by completed completed_by parent_of parent_by operations operated permits permitted_by openers opened_by dependencies dependency_by
wait_shows opening steps rows objects table descriptors deps t shows =
    quiet_shows opening (WaitFor t) steps rows objects table descriptors deps shows refl refl (λ n. refl) (record { names = refl; applied = refl; arrows = λ x op. refl; opened = λ x op. refl; kept = λ k. refl; ends = λ n. wait_ends t steps n })

-- a request that waits changes no lock and no enrolment
pub waiting_shows : (opening : Opening) (steps : List Step) (rows : List NamedTransRow) (objects : Cells) (table : Locks.LockTable) (descriptors : List Descriptor) (deps : List Dependency) (t : ℕ) (x : Ob) (op : Op) → Shows opening steps (table_values rows objects table descriptors deps) → Shows opening steps (table_values rows objects (Locks.wait_in t x op table) descriptors deps)
waiting_shows opening steps rows objects table descriptors deps t x op shows = record {
  names = shows.names;
  statuses = shows.statuses;
  parents = shows.parents;
  cells = shows.cells;
  enrolled = names_waiting t x op table ∙ shows.enrolled;
  locks = λ n y other. carries_waiting t x op table n y other ∙ shows.locks n y other;
  permits_stand = shows.permits_stand;
  openers_stand = shows.openers_stand;
  dependencies_stand = shows.dependencies_stand;
}
