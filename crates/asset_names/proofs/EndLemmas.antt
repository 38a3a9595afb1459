-- Whom a commit or an abort ends, said by a test of transactions.
use Rattle.std.proofs.Common.{◌≡◌, ℕ, Bool, true, false, cond, ◌&&◌, List, [], ◌∷◌, refl, sym, ◌∙◌, ap, None, Some, inl, inr}
use Rattle.std.specs.Prelude.{Option, is_none}
use Rattle.std.specs.Option.{option_or}
use Rattle.std.proofs.lemmas.Bool.{eqb-true, false≢true, and_from, and_parts, or_cases}
use Rattle.asset_names.specs.declared.names.Txn.{Txn}
use Rattle.asset_names.specs.declared.statuses.End.{End}
use Rattle.asset_names.specs.declared.statuses.End.TheVariants as End'
use Rattle.asset_names.specs.declared.steps.Step.{Step}
use Rattle.asset_names.specs.declared.steps.Step.TheVariants.{Commit, Abort}
use Rattle.asset_names.specs.Arrows.{Arrow, lists, linked, among}
use Rattle.asset_names.specs.Steps.{initiated}
use Rattle.asset_names.specs.Endings.{class_arrows, doom_arrows, ended_by, end_of, live}
use Rattle.asset_names.proofs.Arrows.{linked_refl}
use Rattle.asset_names.proofs.Common.{option_or_none}

-- a live transaction was initiated, and has not ended
pub live_parts : (steps : List Step) (t : ℕ) → live steps t ≡ true → (lists (initiated steps) t ≡ true) × (end_of steps t ≡ None)
unfolding live
live_parts steps t = go (lists (initiated steps) t) (end_of steps t) where
  go : (i : Bool) (e : Option End) → (i && is_none e) ≡ true → (i ≡ true) × (e ≡ None)
  go true None h = (refl, refl)
  go true (Some e) h = absurd (false≢true h)
  go false e h = absurd (false≢true h)

-- along arrows among those who pass a test, only those who pass it are reached
pub linked_among : (test : ℕ → Bool) (arrows : List Arrow) (a b : ℕ) → test a ≡ true → linked (among test arrows) a b ≡ true → test b ≡ true
unfolding linked among
linked_among test [] a b passes same = ap test (sym (eqb-true a b same)) ∙ passes
linked_among test (arrow ∷ arrows) a b passes way =
    go (test arrow.0 && test arrow.1) refl (linked_among test arrows a b passes) (λ last. linked_among test arrows arrow.1 b last) way where
      go : (both : Bool) → (test arrow.0 && test arrow.1) ≡ both → (linked (among test arrows) a b ≡ true → test b ≡ true)
          → (test arrow.1 ≡ true → linked (among test arrows) arrow.1 b ≡ true → test b ≡ true)
          → linked (cond both (arrow ∷ among test arrows) (among test arrows)) a b ≡ true → test b ≡ true
      go false e straight onward h = straight h
      go true e straight onward h = elim (or_cases (linked (among test arrows) a b) (linked (among test arrows) a arrow.0 && linked (among test arrows) arrow.1 b) h) [
        | inl without ↦ straight without
        | inr through ↦ onward (and_parts (test arrow.0) (test arrow.1) e).1 (and_parts _ _ through).1
      ]

-- whom a commit of t ends, if t is live: its class; and whom an abort of t ends: all that it spreads to
unfoldable pub commits : List Step → ℕ → ℕ → Bool
commits steps t n = live steps t && linked (among (live steps) (class_arrows steps)) t n

unfoldable pub aborts : List Step → ℕ → ℕ → Bool
aborts steps t n = live steps t && linked (among (live steps) (doom_arrows steps)) t n

-- who ends was live
pub commits_live : (steps : List Step) (t n : ℕ) → commits steps t n ≡ true → live steps n ≡ true
unfolding commits
commits_live steps t n h = let parts = and_parts (live steps t) _ h in linked_among (live steps) (class_arrows steps) t n parts.0 parts.1

pub aborts_live : (steps : List Step) (t n : ℕ) → aborts steps t n ≡ true → live steps n ≡ true
unfolding aborts
aborts_live steps t n h = let parts = and_parts (live steps t) _ h in linked_among (live steps) (doom_arrows steps) t n parts.0 parts.1

-- a live transaction ends itself
pub commits_itself : (steps : List Step) (t : ℕ) → live steps t ≡ true → commits steps t t ≡ true
unfolding commits
commits_itself steps t alive = and_from _ _ alive (linked_refl (among (live steps) (class_arrows steps)) t)

pub aborts_itself : (steps : List Step) (t : ℕ) → live steps t ≡ true → aborts steps t t ≡ true
unfolding aborts
aborts_itself steps t alive = and_from _ _ alive (linked_refl (among (live steps) (doom_arrows steps)) t)

-- one that is not live ends nobody
pub commits_nobody : (steps : List Step) (t n : ℕ) → live steps t ≡ false → commits steps t n ≡ false
unfolding commits
commits_nobody steps t n dead = rw dead refl

pub aborts_nobody : (steps : List Step) (t n : ℕ) → live steps t ≡ false → aborts steps t n ≡ false
unfolding aborts
aborts_nobody steps t n dead = rw dead refl

-- those who pass the test end in this way, and how all others ended stays
abbrev pub Ending : (ℕ → Bool) → End → (ℕ → Option End) → (ℕ → Option End) → Type 0
Ending test how before after = (n : ℕ) → after n ≡ cond (test n) (Some how) (before n)

ends_live : (how : End) (steps : List Step) (test : ℕ → Bool) → ((n : ℕ) → test n ≡ true → live steps n ≡ true) → (n : ℕ)
    → option_or (end_of steps n) (cond (test n) (Some how) None) ≡ cond (test n) (Some how) (end_of steps n)
ends_live how steps test alive n = go (test n) refl where
  go : (here : Bool) → test n ≡ here → option_or (end_of steps n) (cond here (Some how) None) ≡ cond here (Some how) (end_of steps n)
  go false e = option_or_none (end_of steps n)
  go true e = rw (live_parts steps n (alive n e)).1 refl

pub commit_ends : (t : Txn) (steps : List Step) → Ending (commits steps t.0) End'.Committed (end_of steps) (end_of (Commit t ∷ steps))
unfolding end_of ended_by commits live
commit_ends t steps n = ends_live End'.Committed steps (commits steps t.0) (commits_live steps t.0) n

pub abort_ends : (t : Txn) (steps : List Step) → Ending (aborts steps t.0) End'.Aborted (end_of steps) (end_of (Abort t ∷ steps))
unfolding end_of ended_by aborts live
abort_ends t steps n = ends_live End'.Aborted steps (aborts steps t.0) (aborts_live steps t.0) n
