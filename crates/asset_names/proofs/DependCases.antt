-- Worked rows of dependencies, computed on the definitions.
use Rattle.std.specs.Prelude.{[], ◌∷◌, ◌++◌, refl}
use Rattle.asset_names.specs.declared.steps.Kind.TheVariants.{Cd, Ad, Gc}
use Rattle.asset_names.specs.declared.steps.Step.TheVariants.{Begin, Complete, Depend, Commit, Abort, WaitFor}
use Rattle.asset_names.specs.declared.replies.Refusal.TheVariants.{Ended, TooLate, Same, Cycle}
use Rattle.asset_names.specs.declared.replies.Reply.TheVariants.{Committed, Aborted}
use Rattle.asset_names.specs.declared.replies.Outcome.TheVariants.{Answer, Wait}
use Rattle.asset_names.specs.Arrows.{lists, linked, among}
use Rattle.asset_names.specs.Paths.{same_kind, both_ways, leads, closes_cycle, has_outside}
use Rattle.asset_names.specs.Steps.{takes_effect, applied, initiated_by, initiated, begun_by, begun, completed_by, completed}
use Rattle.asset_names.specs.Endings.{dependency_by, dependencies, class_arrows, order_arrows, doom_arrows, has_outside_source, would_cycle, ended_by, end_of, live, status_of, status, same_class}
use Rattle.asset_names.specs.Answers.{is_unknown, has_ended, is_running, is_completed, is_committed, has_begun, unknown, ended, not_running, taken, begun_before, too_late, one_name, cycle, rules_for, first_refusal, may_commit, class_completed, commit_outcome, wait_outcome, unrefused, outcome_unless, answer}
use Rattle.asset_names.proofs.Cases.{t, Case, ok, refused}
use Rattle.asset_names.proofs.PermitCases.{three_run, six_ok}

-- an abort takes those who depend on it by an abort dependency, and their classes
abbrev AbortSpreads : Type 0
AbortSpreads = Case
    (three_run ++ Depend Ad (t 7) (t 8) ∷ Depend Gc (t 8) (t 9) ∷ Abort (t 7) ∷ Commit (t 9) ∷ Commit (t 8) ∷ Begin (t 9) ∷ [])
    (six_ok ++ ok ∷ ok ∷ Answer Aborted ∷ Answer Aborted ∷ Answer Aborted ∷ refused (Ended (t 9)) ∷ [])

-- a commit waits for the end of a source, however it ends
abbrev CommitDependency : Type 0
CommitDependency = Case
    (three_run ++ Depend Cd (t 7) (t 8) ∷ Complete (t 8) ∷ Commit (t 8) ∷ Abort (t 7) ∷ Commit (t 8) ∷ [])
    (six_ok ++ ok ∷ ok ∷ Wait ∷ Answer Aborted ∷ Answer Committed ∷ [])

-- a class commits at once, when each of its members has completed
abbrev GroupCommit : Type 0
GroupCommit = Case
    (three_run ++ Depend Gc (t 7) (t 8) ∷ Commit (t 7) ∷ Complete (t 7) ∷ Commit (t 7) ∷ Complete (t 8) ∷ Commit (t 7) ∷ Commit (t 8) ∷ Abort (t 8) ∷ WaitFor (t 8) ∷ [])
    (six_ok ++ ok ∷ Wait ∷ ok ∷ Wait ∷ ok ∷ Answer Committed ∷ Answer Committed ∷ refused (TooLate (t 8)) ∷ Answer Committed ∷ [])

-- what would close a cycle is refused, and a dependency that stands may be asked for again
abbrev DependencyCycles : Type 0
DependencyCycles = Case
    (three_run ++ Depend Cd (t 7) (t 8) ∷ Depend Gc (t 7) (t 8) ∷ Depend Ad (t 8) (t 7) ∷ Depend Cd (t 7) (t 7) ∷ Depend Cd (t 7) (t 8) ∷ [])
    (six_ok ++ ok ∷ refused Cycle ∷ refused Cycle ∷ refused Same ∷ ok ∷ [])

-- a class is one place on a path: a dependency within it is a cycle, a path leads through it, and an abort takes it whole
abbrev PathsThroughClasses : Type 0
PathsThroughClasses = Case
    (three_run ++ Depend Gc (t 8) (t 9) ∷ Depend Cd (t 8) (t 9) ∷ Depend Ad (t 7) (t 8) ∷ Depend Cd (t 9) (t 7) ∷ Depend Gc (t 7) (t 9) ∷ Depend Gc (t 9) (t 8) ∷ Abort (t 7) ∷ WaitFor (t 9) ∷ [])
    (six_ok ++ ok ∷ refused Cycle ∷ ok ∷ refused Cycle ∷ refused Cycle ∷ ok ∷ Answer Aborted ∷ Answer Aborted ∷ [])

-- a commit of one member waits for a source of another
abbrev SourceOfAnother : Type 0
SourceOfAnother = Case
    (three_run ++ Depend Gc (t 8) (t 9) ∷ Depend Ad (t 7) (t 8) ∷ Complete (t 8) ∷ Complete (t 9) ∷ Commit (t 9) ∷ Complete (t 7) ∷ Commit (t 7) ∷ Commit (t 9) ∷ WaitFor (t 8) ∷ [])
    (six_ok ++ ok ∷ ok ∷ ok ∷ ok ∷ Wait ∷ ok ∷ Answer Committed ∷ Answer Committed ∷ Answer Committed ∷ [])

dependency_rows : AbortSpreads × CommitDependency × GroupCommit × DependencyCycles × PathsThroughClasses × SourceOfAnother
unfolding answer rules_for unrefused first_refusal outcome_unless unknown ended not_running taken begun_before too_late one_name cycle is_unknown has_ended is_running is_completed is_committed has_begun may_commit class_completed commit_outcome wait_outcome status status_of end_of ended_by live same_class has_outside_source would_cycle closes_cycle leads has_outside class_arrows order_arrows doom_arrows dependencies dependency_by both_ways same_kind initiated begun completed initiated_by begun_by completed_by applied takes_effect among linked lists
dependency_rows = (refl, refl, refl, refl, refl, refl)
