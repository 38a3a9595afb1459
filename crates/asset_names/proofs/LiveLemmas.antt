-- Who is live, how that changes with a step, and statuses after a step.
use Rattle.std.proofs.Common.{◌≡◌, ℕ, Bool, true, false, cond, not, eqb, ◌&&◌, ◌||◌, List, ◌∷◌, refl, sym, ◌∙◌, ap, subst, None, Some}
use Rattle.std.specs.Prelude.{Option, is_none, is_some}
use Rattle.std.proofs.lemmas.Bool.{eqb-true, false≢true}
use Rattle.asset_names.specs.declared.names.Txn.{Txn}
use Rattle.asset_names.specs.declared.statuses.Status.{Status}
use Rattle.asset_names.specs.declared.statuses.Status.TheVariants as Status'
use Rattle.asset_names.specs.declared.statuses.End.{End}
use Rattle.asset_names.specs.declared.statuses.End.TheVariants as End'
use Rattle.asset_names.specs.declared.steps.Step.{Step}
use Rattle.asset_names.specs.declared.steps.Step.TheVariants.{Initiate, Begin, Complete, Commit, Abort}
use Rattle.asset_names.specs.Arrows.{lists}
use Rattle.asset_names.specs.Steps.{initiated, initiated_by, begun, begun_by, completed, completed_by}
use Rattle.asset_names.specs.Endings.{ended_by, live, status, status_of, is_live_status, end_of}
use Rattle.asset_names.proofs.LegalLemmas.{ended_initiated}
use Rattle.asset_names.specs.Orderly.{IsOrderly}
use Rattle.asset_names.proofs.Common.{option_or_none}
use Rattle.asset_names.proofs.EndLemmas.{live_parts, commits, aborts, commits_live, aborts_live, Ending, commit_ends, abort_ends}

-- who is live, by the status
pub live_by_status : (steps : List Step) (t : ℕ) → live steps t ≡ is_live_status (status steps t)
unfolding live status status_of is_live_status
live_by_status steps t = go (lists (initiated steps) t) (lists (begun steps) t) (lists (completed steps) t) (end_of steps t) where
  go : (i b c : Bool) (e : Option End) → (i && is_none e) ≡ is_live_status (status_of i b c e)
  go false b c e = refl
  go true b c (Some End'.Committed) = refl
  go true b c (Some End'.Aborted) = refl
  go true b true None = refl
  go true true false None = refl
  go true false false None = refl

-- which steps end nobody
unfoldable pub EndsNobody : Step → Type 0
EndsNobody step = (live : ℕ → Bool) (older : List Step) (n : ℕ) → ended_by step live older n ≡ None

-- a step that ends nobody leaves how each ended
pub end_same : (step : Step) (steps : List Step) (n : ℕ) → EndsNobody step → end_of (step ∷ steps) n ≡ end_of steps n
unfolding end_of EndsNobody
end_same step steps n nobody = rw (nobody (λ m. lists (initiated steps) m && is_none (end_of steps m)) steps n) (option_or_none (end_of steps n))

-- who is not initiated has not ended
pub new_not_ended : (steps : List Step) (n : ℕ) → lists (initiated steps) n ≡ false → end_of steps n ≡ None
new_not_ended steps n new = go (end_of steps n) refl where
  go : (e : Option End) → end_of steps n ≡ e → e ≡ None
  go None is = refl
  go (Some e) is = absurd (false≢true (sym new ∙ ended_initiated steps n (ap is_some is)))

-- who is live after a new name
pub live_initiate : (u : Txn) (parent : _) (steps : List Step) (n : ℕ) → lists (initiated steps) u.0 ≡ false → live (Initiate u parent ∷ steps) n ≡ (eqb u.0 n || live steps n)
unfolding live initiated initiated_by lists end_of ended_by
live_initiate u parent steps n new = rw (option_or_none (end_of steps n)) (go (eqb u.0 n) refl) where
  go : (here : Bool) → eqb u.0 n ≡ here → ((here || lists (initiated steps) n) && is_none (end_of steps n)) ≡ (here || (lists (initiated steps) n && is_none (end_of steps n)))
  go false e = refl
  go true e = ap is_none (new_not_ended steps n (subst (λ m. lists (initiated steps) m ≡ false) (eqb-true u.0 n e) new))

-- who is live after some have ended: who was live and is none of them
pub live_after : (test : ℕ → Bool) (how : End) (steps later : List Step) → initiated later ≡ initiated steps → Ending test how (end_of steps) (end_of later) → (n : ℕ) → live later n ≡ (not (test n) && live steps n)
unfolding live
live_after test how steps later names ends n = rw (names, ends n) (go (test n) (lists (initiated steps) n) (end_of steps n)) where
  go : (gone i : Bool) (e : Option End) → (i && is_none (cond gone (Some how) e)) ≡ (not gone && (i && is_none e))
  go true true e = refl
  go true false e = refl
  go false i e = refl

pub live_commit : (t : Txn) (steps : List Step) (n : ℕ) → live (Commit t ∷ steps) n ≡ (not (commits steps t.0 n) && live steps n)
unfolding initiated initiated_by
live_commit t steps n = live_after (commits steps t.0) End'.Committed steps (Commit t ∷ steps) refl (commit_ends t steps) n

pub live_abort : (t : Txn) (steps : List Step) (n : ℕ) → live (Abort t ∷ steps) n ≡ (not (aborts steps t.0 n) && live steps n)
unfolding initiated initiated_by
live_abort t steps n = live_after (aborts steps t.0) End'.Aborted steps (Abort t ∷ steps) refl (abort_ends t steps) n

-- statuses after a step
pub status_initiate : (u : Txn) (parent : _) (steps : List Step) (n : ℕ) → IsOrderly steps → lists (initiated steps) u.0 ≡ false
    → status (Initiate u parent ∷ steps) n ≡ cond (eqb u.0 n) Status'.Initiated (status steps n)
unfolding status initiated initiated_by begun begun_by completed completed_by lists end_of ended_by status_of
status_initiate u parent steps n orderly new = rw (option_or_none (end_of steps n)) (go (eqb u.0 n) refl) where
  none_of : (m : ℕ) (b : Bool) → (b ≡ true → lists (initiated steps) m ≡ true) → lists (initiated steps) m ≡ false → b ≡ false
  none_of m false known absent = refl
  none_of m true known absent = absurd (false≢true (sym absent ∙ known refl))

  go : (here : Bool) → eqb u.0 n ≡ here → status_of (here || lists (initiated steps) n) (lists (begun steps) n) (lists (completed steps) n) (end_of steps n)
      ≡ cond here Status'.Initiated (status_of (lists (initiated steps) n) (lists (begun steps) n) (lists (completed steps) n) (end_of steps n))
  go false e = refl
  go true e =
      let absent : lists (initiated steps) n ≡ false = subst (λ m. lists (initiated steps) m ≡ false) (eqb-true u.0 n e) new in
      rw (none_of n (lists (begun steps) n) (orderly.begun_known n) absent, none_of n (lists (completed steps) n) (orderly.completed_known n) absent, new_not_ended steps n absent) refl

-- a status by its parts, where they are those of a name that has begun or completed
begun_status : (i b c : Bool) (e : Option End) → status_of i b c e ≡ Status'.Initiated → status_of i true c e ≡ Status'.Running
unfolding status_of
begun_status false b c e h = cc
begun_status true b c (Some End'.Committed) h = cc
begun_status true b c (Some End'.Aborted) h = cc
begun_status true b true None h = cc
begun_status true true false None h = cc
begun_status true false false None h = refl

completed_status : (i b c : Bool) (e : Option End) → status_of i b c e ≡ Status'.Running → status_of i b true e ≡ Status'.Completed
unfolding status_of
completed_status false b c e h = cc
completed_status true b c (Some End'.Committed) h = cc
completed_status true b c (Some End'.Aborted) h = cc
completed_status true b true None h = cc
completed_status true true false None h = refl
completed_status true false false None h = cc

pub status_begin : (u : Txn) (steps : List Step) (n : ℕ) → status steps u.0 ≡ Status'.Initiated → status (Begin u ∷ steps) n ≡ cond (eqb u.0 n) Status'.Running (status steps n)
unfolding status initiated initiated_by begun begun_by completed completed_by lists end_of ended_by
status_begin u steps n before = rw (option_or_none (end_of steps n)) (go (eqb u.0 n) refl) where
  go : (here : Bool) → eqb u.0 n ≡ here → status_of (lists (initiated steps) n) (here || lists (begun steps) n) (lists (completed steps) n) (end_of steps n)
      ≡ cond here Status'.Running (status_of (lists (initiated steps) n) (lists (begun steps) n) (lists (completed steps) n) (end_of steps n))
  go false e = refl
  go true e = begun_status _ (lists (begun steps) n) _ _ (subst (λ m. status_of (lists (initiated steps) m) (lists (begun steps) m) (lists (completed steps) m) (end_of steps m) ≡ Status'.Initiated) (eqb-true u.0 n e) before)

pub status_complete : (u : Txn) (steps : List Step) (n : ℕ) → status steps u.0 ≡ Status'.Running → status (Complete u ∷ steps) n ≡ cond (eqb u.0 n) Status'.Completed (status steps n)
unfolding status initiated initiated_by begun begun_by completed completed_by lists end_of ended_by
status_complete u steps n before = rw (option_or_none (end_of steps n)) (go (eqb u.0 n) refl) where
  go : (here : Bool) → eqb u.0 n ≡ here → status_of (lists (initiated steps) n) (lists (begun steps) n) (here || lists (completed steps) n) (end_of steps n)
      ≡ cond here Status'.Completed (status_of (lists (initiated steps) n) (lists (begun steps) n) (lists (completed steps) n) (end_of steps n))
  go false e = refl
  go true e = completed_status _ _ (lists (completed steps) n) _ (subst (λ m. status_of (lists (initiated steps) m) (lists (begun steps) m) (lists (completed steps) m) (end_of steps m) ≡ Status'.Running) (eqb-true u.0 n e) before)

-- the status that an end gives
unfoldable pub ended_status : End → Status
ended_status End'.Committed = Status'.Committed
ended_status End'.Aborted = Status'.Aborted

status_ended : (how : End) (b c : Bool) → status_of true b c (Some how) ≡ ended_status how
unfolding status_of ended_status
status_ended End'.Committed b c = refl
status_ended End'.Aborted b c = refl

-- some live transactions end in this way, and the others keep their statuses
status_end : (test : ℕ → Bool) (how : End) (steps : List Step) → ((n : ℕ) → test n ≡ true → live steps n ≡ true) → (n : ℕ) (later : Option End) → later ≡ cond (test n) (Some how) (end_of steps n)
    → status_of (lists (initiated steps) n) (lists (begun steps) n) (lists (completed steps) n) later ≡ cond (test n) (ended_status how) (status steps n)
unfolding status
status_end test how steps alive n later is = rw is (go (test n) refl) where
  go : (here : Bool) → test n ≡ here → status_of (lists (initiated steps) n) (lists (begun steps) n) (lists (completed steps) n) (cond here (Some how) (end_of steps n))
      ≡ cond here (ended_status how) (status_of (lists (initiated steps) n) (lists (begun steps) n) (lists (completed steps) n) (end_of steps n))
  go false e = refl
  go true e = rw (live_parts steps n (alive n e)).0 (status_ended how (lists (begun steps) n) (lists (completed steps) n))

pub status_commit : (t : Txn) (steps : List Step) (n : ℕ) → status (Commit t ∷ steps) n ≡ cond (commits steps t.0 n) Status'.Committed (status steps n)
unfolding status initiated initiated_by begun begun_by completed completed_by ended_status
status_commit t steps n = status_end (commits steps t.0) End'.Committed steps (commits_live steps t.0) n (end_of (Commit t ∷ steps) n) (commit_ends t steps n)

pub status_abort : (t : Txn) (steps : List Step) (n : ℕ) → status (Abort t ∷ steps) n ≡ cond (aborts steps t.0 n) Status'.Aborted (status steps n)
unfolding status initiated initiated_by begun begun_by completed completed_by ended_status
status_abort t steps n = status_end (aborts steps t.0) End'.Aborted steps (aborts_live steps t.0) n (end_of (Abort t ∷ steps) n) (abort_ends t steps n)
