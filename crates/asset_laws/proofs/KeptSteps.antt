-- The steps of transactions that are kept say the same of each kept transaction as all steps do.
use Rattle.std.proofs.Common.{◌≡◌, ℕ, Bool, true, false, eqb, ◌||◌, List, [], ◌∷◌, ◌++◌, filter, refl, sym, ◌∙◌, ap}
use Rattle.std.proofs.lemmas.Bool.{or_parts, false≢true}
use Rattle.asset_names.specs.declared.steps.Step.{Step}
use Rattle.asset_names.specs.declared.steps.Step.TheVariants.{Initiate, Begin, Read, Write, Add, Complete, Permit, PermitAny, Delegate, Depend, Commit, Abort, WaitFor}
use Rattle.asset_names.specs.Arrows.{lists}
use Rattle.asset_names.specs.Steps.{initiated_by, begun_by, completed_by}
use Rattle.asset_names.specs.Endings.{ended_by, end_of}
use Rattle.asset_names.specs.Groups.{actor, partner}
use Rattle.asset_names.proofs.EndLemmas.{commits, aborts, commit_ends, abort_ends}
use Rattle.asset_names.proofs.LiveLemmas.{EndsNobody, end_same}
use Rattle.asset_laws.proofs.KeepLinks.{other_name}
use Rattle.asset_laws.proofs.AlikeLemmas.{IsAlike, commits_alike, aborts_alike, commits_keeps, aborts_keeps}

-- the steps of transactions that are kept
unfoldable pub kept_steps : (ℕ → Bool) → List Step → List Step
kept_steps keep steps = filter (λ (step : Step). keep (actor step).0) steps

-- each step acts on kept transactions alone, or on none
unfoldable pub Respects : (ℕ → Bool) → List Step → Type 0
Respects keep [] = Unit {0}
Respects keep (step ∷ older) = (keep (actor step).0 ≡ keep (partner step).0) × Respects keep older

-- ---- the lists of who was initiated, has begun and has completed

-- a step of a kept transaction adds to both lists alike
pub one_more : (names few many : List ℕ) (n : ℕ) → lists few n ≡ lists many n → lists (names ++ few) n ≡ lists (names ++ many) n
unfolding lists
one_more [] few many n same = same
one_more (m ∷ names) few many n same = ap (λ b. eqb m n || b) (one_more names few many n same)

-- a step of another adds no kept one
pub stranger_adds : (keep : ℕ → Bool) (step : Step) (n : ℕ) → keep (actor step).0 ≡ false → keep n ≡ true
    → (lists (initiated_by step) n ≡ false) × (lists (begun_by step) n ≡ false) × (lists (completed_by step) n ≡ false)
unfolding initiated_by begun_by completed_by lists actor
stranger_adds keep (Initiate t parent) n gone stays = (rw (other_name keep t.0 n gone stays) refl, refl, refl)
stranger_adds keep (Begin t) n gone stays = (refl, rw (other_name keep t.0 n gone stays) refl, refl)
stranger_adds keep (Complete t) n gone stays = (refl, refl, rw (other_name keep t.0 n gone stays) refl)
stranger_adds keep (Read t x) n gone stays = (refl, refl, refl)
stranger_adds keep (Write t x v) n gone stays = (refl, refl, refl)
stranger_adds keep (Add t x d) n gone stays = (refl, refl, refl)
stranger_adds keep (Permit giver taker obs ops) n gone stays = (refl, refl, refl)
stranger_adds keep (Delegate giver taker obs) n gone stays = (refl, refl, refl)
stranger_adds keep (Depend kind a b) n gone stays = (refl, refl, refl)
stranger_adds keep (Commit t) n gone stays = (refl, refl, refl)
stranger_adds keep (Abort t) n gone stays = (refl, refl, refl)
stranger_adds keep (WaitFor t) n gone stays = (refl, refl, refl)
stranger_adds keep (PermitAny giver obs ops) n gone stays = (refl, refl, refl)

pub passed_over : (names many : List ℕ) (n : ℕ) → lists names n ≡ false → lists (names ++ many) n ≡ lists many n
unfolding lists
passed_over [] many n none = refl
passed_over (m ∷ names) many n none = let parts = or_parts (eqb m n) _ none in rw (parts.0) (passed_over names many n parts.1)

-- ---- ends

-- a step of a kept transaction ends kept ones alike
pub kept_ends : (keep : ℕ → Bool) (some all : List Step) → IsAlike keep some all → (step : Step) → keep (actor step).0 ≡ true → (n : ℕ) → keep n ≡ true
    → end_of (step ∷ some) n ≡ end_of (step ∷ all) n
unfolding EndsNobody ended_by actor
kept_ends keep some all alike step = by step where
  quiet : (step : Step) → EndsNobody step → (n : ℕ) → keep n ≡ true → end_of (step ∷ some) n ≡ end_of (step ∷ all) n
  quiet step nobody n stays = end_same step some n nobody ∙ alike.ends_alike n stays ∙ sym (end_same step all n nobody)

  by : (step : Step) → keep (actor step).0 ≡ true → (n : ℕ) → keep n ≡ true → end_of (step ∷ some) n ≡ end_of (step ∷ all) n
  by (Initiate t parent) one n stays = quiet (Initiate t parent) (λ l o m. refl) n stays
  by (Begin t) one n stays = quiet (Begin t) (λ l o m. refl) n stays
  by (Read t x) one n stays = quiet (Read t x) (λ l o m. refl) n stays
  by (Write t x v) one n stays = quiet (Write t x v) (λ l o m. refl) n stays
  by (Add t x d) one n stays = quiet (Add t x d) (λ l o m. refl) n stays
  by (Complete t) one n stays = quiet (Complete t) (λ l o m. refl) n stays
  by (Permit giver taker obs ops) one n stays = quiet (Permit giver taker obs ops) (λ l o m. refl) n stays
  by (Delegate giver taker obs) one n stays = quiet (Delegate giver taker obs) (λ l o m. refl) n stays
  by (Depend kind a b) one n stays = quiet (Depend kind a b) (λ l o m. refl) n stays
  by (WaitFor t) one n stays = quiet (WaitFor t) (λ l o m. refl) n stays
  by (PermitAny giver obs ops) one n stays = quiet (PermitAny giver obs ops) (λ l o m. refl) n stays
  by (Commit t) one n stays = commit_ends t some n ∙ rw (commits_alike keep some all alike t.0 n one, alike.ends_alike n stays) refl ∙ sym (commit_ends t all n)
  by (Abort t) one n stays = abort_ends t some n ∙ rw (aborts_alike keep some all alike t.0 n one, alike.ends_alike n stays) refl ∙ sym (abort_ends t all n)

-- a step of another ends no kept one
pub stranger_ends : (keep : ℕ → Bool) (some all : List Step) → IsAlike keep some all → (step : Step) → keep (actor step).0 ≡ false → (n : ℕ) → keep n ≡ true
    → end_of (step ∷ all) n ≡ end_of all n
unfolding EndsNobody ended_by actor
stranger_ends keep some all alike step = by step where
  nobody_kept : (t n : ℕ) (ends : Bool) → keep t ≡ false → keep n ≡ true → (ends ≡ true → keep t ≡ keep n) → ends ≡ false
  nobody_kept t n false gone stays same = refl
  nobody_kept t n true gone stays same = absurd (false≢true (sym gone ∙ same refl ∙ stays))

  by : (step : Step) → keep (actor step).0 ≡ false → (n : ℕ) → keep n ≡ true → end_of (step ∷ all) n ≡ end_of all n
  by (Initiate t parent) gone n stays = end_same (Initiate t parent) all n (λ l o m. refl)
  by (Begin t) gone n stays = end_same (Begin t) all n (λ l o m. refl)
  by (Read t x) gone n stays = end_same (Read t x) all n (λ l o m. refl)
  by (Write t x v) gone n stays = end_same (Write t x v) all n (λ l o m. refl)
  by (Add t x d) gone n stays = end_same (Add t x d) all n (λ l o m. refl)
  by (Complete t) gone n stays = end_same (Complete t) all n (λ l o m. refl)
  by (Permit giver taker obs ops) gone n stays = end_same (Permit giver taker obs ops) all n (λ l o m. refl)
  by (Delegate giver taker obs) gone n stays = end_same (Delegate giver taker obs) all n (λ l o m. refl)
  by (Depend kind a b) gone n stays = end_same (Depend kind a b) all n (λ l o m. refl)
  by (WaitFor t) gone n stays = end_same (WaitFor t) all n (λ l o m. refl)
  by (PermitAny giver obs ops) gone n stays = end_same (PermitAny giver obs ops) all n (λ l o m. refl)
  by (Commit t) gone n stays = commit_ends t all n ∙ rw (nobody_kept t.0 n (commits all t.0 n) gone stays (commits_keeps keep some all alike t.0 n)) refl
  by (Abort t) gone n stays = abort_ends t all n ∙ rw (nobody_kept t.0 n (aborts all t.0 n) gone stays (aborts_keeps keep some all alike t.0 n)) refl
