-- Classes end together, and an abort takes the least closed set.
use Rattle.std.proofs.Common.{◌≡◌, ℕ, Bool, true, false, cond, not, ◌&&◌, List, ◌∷◌, refl, sym, ◌∙◌, None, Some, inl, inr}
use Rattle.std.specs.Prelude.{Option}
use Rattle.std.proofs.lemmas.Bool.{or_cases, or_left, or_right, and_parts, and_from}
use Rattle.asset_names.specs.declared.names.Txn.{Txn}
use Rattle.asset_names.specs.declared.statuses.End.{End}
use Rattle.asset_names.specs.declared.statuses.End.TheVariants as End'
use Rattle.asset_names.specs.declared.steps.Kind.TheVariants.{Ad, Gc}
use Rattle.asset_names.specs.declared.steps.Step.{Step}
use Rattle.asset_names.specs.declared.steps.Step.TheVariants.{Initiate, Begin, Read, Write, Add, Complete, Permit, PermitAny, Delegate, Depend, Commit, Abort, WaitFor}
use Rattle.asset_names.specs.Arrows.{linked, has_arrow, among}
use Rattle.asset_names.specs.Endings.{dependencies, class_arrows, doom_arrows, ended_by, end_of, live, same_class}
use Rattle.asset_names.proofs.Arrows.{linked_trans}
use Rattle.asset_names.proofs.Common.{both_follow}
use Rattle.asset_names.proofs.PermitLemmas.{linked_has, linked_more, has_among}
use Rattle.asset_names.proofs.DependLemmas.{has_append}
use Rattle.asset_names.proofs.EndLemmas.{live_parts, commits, commits_live, aborts, aborts_live, aborts_itself, commit_ends, abort_ends}
use Rattle.asset_names.proofs.LiveLemmas.{EndsNobody, end_same, live_commit, live_abort}
use Rattle.asset_laws.specs.Textbook.{IsClosed, ends}
use Rattle.asset_laws.proofs.PathLemmas.{closed_linked, both_back}

-- a class leads both ways
class_back : (steps : List Step) (a b : ℕ) → linked (among (live steps) (class_arrows steps)) a b ≡ true → linked (among (live steps) (class_arrows steps)) b a ≡ true
unfolding class_arrows
class_back steps a b = both_back (live steps) (dependencies Gc steps) a b

-- an abort spreads over a class
class_doomed : (steps : List Step) (a b : ℕ) → linked (among (live steps) (class_arrows steps)) a b ≡ true → linked (among (live steps) (doom_arrows steps)) a b ≡ true
unfolding doom_arrows
class_doomed steps = linked_more (among (live steps) (class_arrows steps)) (among (live steps) (doom_arrows steps)) more where
  more : (u v : ℕ) → has_arrow (among (live steps) (class_arrows steps)) u v ≡ true → has_arrow (among (live steps) (doom_arrows steps)) u v ≡ true
  more u v h =
      let parts = and_parts (live steps u && live steps v) _ (sym (has_among (live steps) (class_arrows steps) u v) ∙ h) in
      has_among (live steps) (doom_arrows steps) u v ∙ and_from _ _ parts.0 (has_append (class_arrows steps) (dependencies Ad steps) u v ∙ or_left _ _ parts.1)

-- a commit or an abort ends both of one class, or neither
commits_both : (steps : List Step) (t a b : ℕ) → same_class steps a b ≡ true → commits steps t a ≡ commits steps t b
unfolding commits same_class
commits_both steps t a b same = both_follow _ _ (there a b same) (there b a (class_back steps a b same)) where
  there : (a b : ℕ) → linked (among (live steps) (class_arrows steps)) a b ≡ true
      → (live steps t && linked (among (live steps) (class_arrows steps)) t a) ≡ true → (live steps t && linked (among (live steps) (class_arrows steps)) t b) ≡ true
  there a b same h = let parts = and_parts (live steps t) _ h in and_from _ _ parts.0 (linked_trans (among (live steps) (class_arrows steps)) t a b parts.1 same)

aborts_both : (steps : List Step) (t a b : ℕ) → same_class steps a b ≡ true → aborts steps t a ≡ aborts steps t b
unfolding aborts same_class
aborts_both steps t a b same = both_follow _ _ (there a b same) (there b a (class_back steps a b same)) where
  there : (a b : ℕ) → linked (among (live steps) (class_arrows steps)) a b ≡ true
      → (live steps t && linked (among (live steps) (doom_arrows steps)) t a) ≡ true → (live steps t && linked (among (live steps) (doom_arrows steps)) t b) ≡ true
  there a b same h = let parts = and_parts (live steps t) _ h in and_from _ _ parts.0 (linked_trans (among (live steps) (doom_arrows steps)) t a b parts.1 (class_doomed steps a b same))

-- two that did not end go on in one way
end_alike : (how : End) (p q : Bool) (d e : Option End) → p ≡ q → d ≡ None → e ≡ None → cond p (Some how) d ≡ cond q (Some how) e
end_alike how p q d e same none other = rw (same, none, other) refl

-- whatever the step, both end or neither does, and in one way
pub never_split : (step : Step) (steps : List Step) (a b : ℕ) → live steps a ≡ true → live steps b ≡ true → same_class steps a b ≡ true → end_of (step ∷ steps) a ≡ end_of (step ∷ steps) b
unfolding EndsNobody ended_by
never_split step steps a b one other same = by step where
  quiet : (step : Step) → EndsNobody step → end_of (step ∷ steps) a ≡ end_of (step ∷ steps) b
  quiet step nobody = end_same step steps a nobody ∙ (live_parts steps a one).1 ∙ sym (end_same step steps b nobody ∙ (live_parts steps b other).1)

  by : (step : Step) → end_of (step ∷ steps) a ≡ end_of (step ∷ steps) b
  by (Initiate t parent) = quiet (Initiate t parent) (λ l o n. refl)
  by (Begin t) = quiet (Begin t) (λ l o n. refl)
  by (Read t x) = quiet (Read t x) (λ l o n. refl)
  by (Write t x v) = quiet (Write t x v) (λ l o n. refl)
  by (Add t x d) = quiet (Add t x d) (λ l o n. refl)
  by (Complete t) = quiet (Complete t) (λ l o n. refl)
  by (Permit giver taker obs ops) = quiet (Permit giver taker obs ops) (λ l o n. refl)
  by (Delegate giver taker obs) = quiet (Delegate giver taker obs) (λ l o n. refl)
  by (Depend kind u v) = quiet (Depend kind u v) (λ l o n. refl)
  by (WaitFor t) = quiet (WaitFor t) (λ l o n. refl)
  by (PermitAny giver obs ops) = quiet (PermitAny giver obs ops) (λ l o n. refl)
  by (Commit t) = commit_ends t steps a ∙ end_alike End'.Committed _ _ _ _ (commits_both steps t.0 a b same) (live_parts steps a one).1 (live_parts steps b other).1 ∙ sym (commit_ends t steps b)
  by (Abort t) = abort_ends t steps a ∙ end_alike End'.Aborted _ _ _ _ (aborts_both steps t.0 a b same) (live_parts steps a one).1 (live_parts steps b other).1 ∙ sym (abort_ends t steps b)

-- those who pass a test and go were live
gone_are : (alive taken : Bool) → (taken ≡ true → alive ≡ true) → (alive && not (not taken && alive)) ≡ taken
gone_are true true h = refl
gone_are true false h = refl
gone_are false true h = h refl
gone_are false false h = refl

-- whom a commit ends, and how
committed_are : (t : Txn) (steps : List Step) (n : ℕ) → ends (Commit t) steps n ≡ commits steps t.0 n
committed_are t steps n = rw (live_commit t steps n) (gone_are (live steps n) (commits steps t.0 n) (commits_live steps t.0 n))

pub takes_class : (t : Txn) (steps : List Step) (n : ℕ) → live steps t.0 ≡ true → ends (Commit t) steps n ≡ same_class steps t.0 n
unfolding commits same_class
takes_class t steps n alive = committed_are t steps n ∙ rw alive refl

pub ends_committed : (t : Txn) (steps : List Step) (n : ℕ) → end_of (Commit t ∷ steps) n ≡ cond (ends (Commit t) steps n) (Some End'.Committed) (end_of steps n)
ends_committed t steps n = rw (committed_are t steps n) (commit_ends t steps n)

-- whom an abort ends, and how
taken_is : (t : Txn) (steps : List Step) (n : ℕ) → ends (Abort t) steps n ≡ aborts steps t.0 n
taken_is t steps n = rw (live_abort t steps n) (gone_are (live steps n) (aborts steps t.0 n) (aborts_live steps t.0 n))

pub ends_aborted : (t : Txn) (steps : List Step) (n : ℕ) → end_of (Abort t ∷ steps) n ≡ cond (ends (Abort t) steps n) (Some End'.Aborted) (end_of steps n)
ends_aborted t steps n = rw (taken_is t steps n) (abort_ends t steps n)

pub takes_itself : (t : Txn) (steps : List Step) → live steps t.0 ≡ true → ends (Abort t) steps t.0 ≡ true
takes_itself t steps alive = taken_is t steps t.0 ∙ aborts_itself steps t.0 alive

-- an arrow of an abort dependency between live transactions spreads an abort
ad_doomed : (steps : List Step) (a b : ℕ) → live steps a ≡ true → live steps b ≡ true → has_arrow (dependencies Ad steps) a b ≡ true → linked (among (live steps) (doom_arrows steps)) a b ≡ true
unfolding doom_arrows
ad_doomed steps a b one other arrow =
    linked_has (among (live steps) (doom_arrows steps)) a b
    (has_among (live steps) (doom_arrows steps) a b ∙ and_from _ _ (and_from _ _ one other) (has_append (class_arrows steps) (dependencies Ad steps) a b ∙ or_right (has_arrow (class_arrows steps) a b) _ arrow))

pub takes_closed : (t : Txn) (steps : List Step) → IsClosed steps (ends (Abort t) steps)
unfolding aborts same_class
takes_closed t steps = record {
  classes = λ a b here same.
      let parts = and_parts (live steps t.0) _ (sym (taken_is t steps a) ∙ here) in
      taken_is t steps b ∙ and_from _ _ parts.0 (linked_trans (among (live steps) (doom_arrows steps)) t.0 a b parts.1 (class_doomed steps a b same));
  dependents = λ a b here alive arrow.
      let taken = sym (taken_is t steps a) ∙ here in
      let parts = and_parts (live steps t.0) _ taken in
      taken_is t steps b ∙ and_from _ _ parts.0 (linked_trans (among (live steps) (doom_arrows steps)) t.0 a b parts.1 (ad_doomed steps a b (aborts_live steps t.0 a taken) alive arrow));
}

pub takes_least : (t : Txn) (steps : List Step) (taken : ℕ → Bool) → IsClosed steps taken → taken t.0 ≡ true → (n : ℕ) → ends (Abort t) steps n ≡ true → taken n ≡ true
unfolding aborts same_class doom_arrows
takes_least t steps taken closed here n ended =
    closed_linked (among (live steps) (doom_arrows steps)) taken keeps t.0 n (and_parts (live steps t.0) _ (sym (taken_is t steps n) ∙ ended)).1 here where
      keeps : (u v : ℕ) → has_arrow (among (live steps) (doom_arrows steps)) u v ≡ true → taken u ≡ true → taken v ≡ true
      keeps u v arrow first =
          let parts = and_parts (live steps u && live steps v) _ (sym (has_among (live steps) (doom_arrows steps) u v) ∙ arrow) in
          let both = and_parts (live steps u) (live steps v) parts.0 in
          elim (or_cases (has_arrow (class_arrows steps) u v) _ (sym (has_append (class_arrows steps) (dependencies Ad steps) u v) ∙ parts.1)) [
            | inl same ↦ closed.classes u v first (linked_has (among (live steps) (class_arrows steps)) u v (has_among (live steps) (class_arrows steps) u v ∙ and_from _ _ parts.0 same))
            | inr order ↦ closed.dependents u v first both.1 order
          ]
