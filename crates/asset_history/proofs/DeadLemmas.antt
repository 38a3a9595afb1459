-- A group is dead where no commit of a member was answered with `Committed`.
use Rattle.std.proofs.Common.{◌≡◌, ℕ, Bool, true, false, cond, not, ◌&&◌, List, [], ◌∷◌, refl, sym, ◌∙◌, ap, inl, inr, None, Some, ◌⊎◌}
use Rattle.std.specs.Prelude.{Option, is_none}
use Rattle.std.specs.Option.{option_or}
use Rattle.std.specs.List.{list_any}
use Rattle.std.proofs.lemmas.Bool.{or_cases, or_left, or_right, and_parts, false≢true, not-false}
use Rattle.asset_names.specs.declared.names.Txn.{Txn}
use Rattle.asset_names.specs.declared.statuses.End.{End}
use Rattle.asset_names.specs.declared.statuses.End.TheVariants as End'
use Rattle.asset_names.specs.declared.steps.Step.{Step}
use Rattle.asset_names.specs.declared.steps.Step.TheVariants.{Commit, Abort}
use Rattle.asset_names.specs.declared.replies.Reply.{Reply}
use Rattle.asset_names.specs.declared.replies.Reply.TheVariants as Reply'
use Rattle.asset_names.specs.declared.replies.Outcome.TheVariants.{Answer}
use Rattle.asset_names.specs.Arrows.{lists}
use Rattle.asset_names.specs.Steps.{Opening, Entry, takes_effect, applied, initiated, begun, completed}
use Rattle.asset_names.specs.Endings.{end_of, ended_by, live, same_class, status, status_of}
use Rattle.asset_names.specs.Groups.{same_group, acted_on, was_committed, dead}
use Rattle.asset_names.specs.Answers.{is_unknown, unknown, answer, outcome_unless, rules_for, unrefused, commit_outcome, may_commit, IsLegal}
use Rattle.asset_names.proofs.Arrows.{linked_refl}
use Rattle.asset_names.proofs.EndLemmas.{commits}
use Rattle.asset_names.proofs.LegalLemmas.{effect_unrefused, first_none, known_initiated}
use Rattle.asset_laws.proofs.KeptLemmas.{RespectsEntries, respects_applied, kept_alike}
use Rattle.asset_laws.proofs.AlikeLemmas.{commits_keeps}
use Rattle.asset_laws.proofs.GroupLemmas.{keeps_respects, group_keeps, dead_uncommitted}
use Rattle.asset_entries.specs.Committing.{committer, passes, has_commit}

-- ---- who has committed was ended by an answered commit of a member of its group

-- what a step that took effect ends by a commit, it commits
commit_passes : (test : ℕ → Bool) (step : Step) (reply : Reply) (steps : List Step) (n : ℕ) → takes_effect step reply ≡ true → ((u : ℕ) → commits steps u n ≡ true → test u ≡ true)
    → was_committed (ended_by step (λ m. lists (initiated steps) m && is_none (end_of steps m)) steps n) ≡ true → passes test (committer step reply) ≡ true
unfolding takes_effect ended_by commits live same_class passes committer was_committed
commit_passes test (Commit u) Reply'.Committed steps n carried known h = known u.0 (go _ h) where
  go : (b : Bool) → was_committed (cond b (Some End'.Committed) None) ≡ true → b ≡ true
  go true h = refl
  go false h = h
commit_passes test (Commit u) reply steps n carried known h = absurd (false≢true carried)
commit_passes test (Abort u) reply steps n carried known h = absurd (go _ h) where
  go : (b : Bool) → was_committed (cond b (Some End'.Aborted) None) ≡ true → ⊥
  go true h = false≢true h
  go false h = false≢true h
commit_passes test step reply steps n carried known h = absurd (false≢true h)

-- either it was committed before, or the step ends it
committed_now : (end later : Option End) → was_committed (option_or end later) ≡ true → (was_committed end ≡ true) ⊎ (was_committed later ≡ true)
unfolding was_committed
committed_now None later h = inr h
committed_now (Some end) later h = inl h

pub committed_by_member : (test : ℕ → Bool) (entries : List Entry) → RespectsEntries test entries → (n : ℕ) → test n ≡ true → was_committed (end_of (applied entries) n) ≡ true → has_commit test entries ≡ true
unfolding RespectsEntries applied end_of has_commit was_committed
committed_by_member test [] respects n here h = absurd (false≢true h)
committed_by_member test (entry ∷ older) respects n here h = go (takes_effect entry.0 entry.1) refl (committed_by_member test older respects.1 n here) h where
  steps : List Step
  steps = applied older

  go : (effect : Bool) → takes_effect entry.0 entry.1 ≡ effect → (was_committed (end_of steps n) ≡ true → has_commit test older ≡ true)
      → was_committed (end_of (cond effect (entry.0 ∷ steps) steps) n) ≡ true → has_commit test (entry ∷ older) ≡ true
  go false e known h = or_right (passes test (committer entry.0 entry.1)) _ (known h)
  go true e known h =
      let alike = kept_alike test steps (respects_applied test older respects.1) in
      elim (committed_now (end_of steps n) _ h) [
        | inl before ↦ or_right (passes test (committer entry.0 entry.1)) _ (known before)
        | inr now ↦ or_left _ _ (commit_passes test entry.0 entry.1 steps n e (λ u commit. commits_keeps test _ steps alike u n commit ∙ here) now)
      ]

-- ---- an answered commit leaves its transaction committed

pub committed_after : (opening : Opening) (steps : List Step) (t : Txn) → answer opening steps (Commit t) ≡ Answer Reply'.Committed → was_committed (end_of (Commit t ∷ steps) t.0) ≡ true
unfolding answer outcome_unless rules_for unrefused unknown is_unknown takes_effect status status_of commit_outcome end_of ended_by was_committed
committed_after opening steps t is =
    let unrefused_here = effect_unrefused opening steps (Commit t) Reply'.Committed is refl in
    let known = known_initiated steps t.0 (first_none _ _ unrefused_here).0 in
    let outcome : commit_outcome (status steps t.0) (may_commit steps t.0) ≡ Answer Reply'.Committed = sym (ap (λ first. outcome_unless first (unrefused opening steps (Commit t))) unrefused_here) ∙ is in
    go (lists (initiated steps) t.0) (lists (begun steps) t.0) (lists (completed steps) t.0) (end_of steps t.0) (may_commit steps t.0) _ known (linked_refl _ t.0) outcome where
      go : (i b c : Bool) (end : Option End) (ready reached : Bool) → i ≡ true → reached ≡ true → commit_outcome (status_of i b c end) ready ≡ Answer Reply'.Committed
          → was_committed (option_or end (cond ((i && is_none end) && reached) (Some End'.Committed) None)) ≡ true
      go false b c end ready reached known all h = absurd (false≢true known)
      go true b c (Some End'.Committed) ready reached known all h = refl
      go true b c (Some End'.Aborted) ready reached known all h = absurd cc
      go true b c None ready reached known all h = rw all refl

pub committed_stays : (entry : Entry) (older : List Entry) (n : ℕ) → was_committed (end_of (applied older) n) ≡ true → was_committed (end_of (applied (entry ∷ older)) n) ≡ true
unfolding applied end_of was_committed
committed_stays entry older n h = go (takes_effect entry.0 entry.1) where
  stays : (end later : Option End) → was_committed end ≡ true → was_committed (option_or end later) ≡ true
  stays None later h = absurd (false≢true h)
  stays (Some end) later h = h

  go : (effect : Bool) → was_committed (end_of (cond effect (entry.0 ∷ applied older) (applied older)) n) ≡ true
  go true = stays (end_of (applied older) n) _ h
  go false = h

commit_counts : (opening : Opening) (test : ℕ → Bool) (step : Step) (reply : Reply) (older : List Entry) → answer opening (applied older) step ≡ Answer reply → passes test (committer step reply) ≡ true
    → (n : ℕ) × (test n ≡ true) × (was_committed (end_of (applied ((step, reply) ∷ older)) n) ≡ true)
unfolding passes committer applied takes_effect
commit_counts opening test (Commit t) Reply'.Committed older is h = (t.0, h, committed_after opening (applied older) t is)
commit_counts opening test step reply older is h = absurd (false≢true h)

pub member_committed : (opening : Opening) (test : ℕ → Bool) (entries : List Entry) → IsLegal opening entries → has_commit test entries ≡ true → (n : ℕ) × (test n ≡ true) × (was_committed (end_of (applied entries) n) ≡ true)
unfolding IsLegal has_commit
member_committed opening test [] legal h = absurd (false≢true h)
member_committed opening test (entry ∷ older) legal h = elim (or_cases (passes test (committer entry.0 entry.1)) _ h) [
  | inl here ↦ commit_counts opening test entry.0 entry.1 older legal.0 here
  | inr before ↦
      let known = member_committed opening test older legal.1 before in
      (known.0, known.1, committed_stays entry older known.0 known.2)
]

-- ---- dead groups

found : (test : ℕ → Bool) (names : List ℕ) → list_any test names ≡ true → (n : ℕ) × (test n ≡ true)
found test [] h = absurd (false≢true h)
found test (n ∷ names) h = elim (or_cases (test n) _ h) [
  | inl here ↦ (n, here)
  | inr later ↦ found test names later
]

pub dead_is : (opening : Opening) (entries : List Entry) (t : ℕ) → IsLegal opening entries → dead entries t ≡ not (has_commit (same_group entries t) entries)
unfolding dead
dead_is opening entries t legal = go (dead entries t) refl (has_commit (same_group entries t) entries) refl where
  alive : dead entries t ≡ false → has_commit (same_group entries t) entries ≡ true
  alive e =
      let member = found (λ n. same_group entries t n && was_committed (end_of (applied entries) n)) (acted_on entries) (not-false _ e) in
      let parts = and_parts (same_group entries t member.0) _ member.1 in
      committed_by_member (same_group entries t) entries (keeps_respects (same_group entries t) entries (group_keeps entries t)) member.0 parts.0 parts.1

  go : (gone : Bool) → dead entries t ≡ gone → (commit : Bool) → has_commit (same_group entries t) entries ≡ commit → gone ≡ not commit
  go true e true f =
      let member = member_committed opening (same_group entries t) entries legal f in
      absurd (false≢true (sym (dead_uncommitted entries t member.0 e member.1) ∙ member.2))
  go true e false f = refl
  go false e true f = refl
  go false e false f = absurd (false≢true (sym f ∙ alive e))
