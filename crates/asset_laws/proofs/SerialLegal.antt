-- Those who committed, in the order of their commits, where nobody shares.
use Rattle.std.proofs.Common.{◌≡◌, ℕ, Bool, true, false, cond, not, eqb, ◌&&◌, List, [], ◌∷◌, ◌++◌, refl, sym, ◌∙◌, ap, subst, inl, inr, ◌⊎◌, None, Some}
use Rattle.std.specs.Prelude.{Option}
use Rattle.std.specs.List.{list_any}
use Rattle.std.proofs.lemmas.Bool.{or_cases, or_left, or_right, eqb-true, false≢true, not-false}
use Rattle.asset_names.specs.declared.statuses.End.{End}
use Rattle.asset_names.specs.declared.statuses.End.TheVariants as End'
use Rattle.asset_names.specs.declared.steps.Step.{Step}
use Rattle.asset_names.specs.declared.steps.Step.TheVariants.{Initiate, Begin, Read, Write, Add, Complete, Permit, PermitAny, Delegate, Depend, Commit, Abort, WaitFor}
use Rattle.asset_names.specs.declared.replies.Refusal.{Refusal}
use Rattle.asset_names.specs.declared.replies.Reply.{Reply}
use Rattle.asset_names.specs.declared.replies.Outcome.TheVariants.{Answer}
use Rattle.asset_names.specs.Arrows.{lists}
use Rattle.asset_names.specs.Orderly.{Distinct}
use Rattle.asset_names.specs.Steps.{Opening, Entry, takes_effect, applied, initiated, begun, completed}
use Rattle.asset_names.specs.Endings.{ended_by, end_of, live, status, status_of}
use Rattle.asset_names.specs.Groups.{actor, partner, was_committed, kept}
use Rattle.asset_names.specs.Operations.{was_aborted}
use Rattle.asset_names.specs.Answers.{is_running, unknown, ended, not_running, rules_for, first_refusal, unrefused, outcome_unless, answer, IsLegal}
use Rattle.asset_names.proofs.LegalLemmas.{first_none, legal_orderly}
use Rattle.asset_names.proofs.EndLemmas.{live_parts, commits, aborts, commits_itself, commit_ends, abort_ends}
use Rattle.asset_names.proofs.LiveLemmas.{EndsNobody, end_same}
use Rattle.asset_laws.specs.Serial.{committed_by, committed_names}
use Rattle.asset_laws.proofs.AlikeLemmas.{IsAlike, status_alike, may_commit_alike}
use Rattle.asset_laws.proofs.AnswersAlike.{Uncommitted, OpensTo, rules_alike, answer_alike}
use Rattle.asset_laws.proofs.KeptLemmas.{kept_alike, kept_applied}
use Rattle.asset_laws.proofs.KeptSteps.{Respects}
use Rattle.asset_laws.proofs.SerialPlain.{AllPlain, AllSingle, commits_plain, legal_plain}
use Rattle.asset_laws.proofs.SerialValues.{NobodyAborted, AllOwnOpens, own_opens_rest, own_opens_head, own_openers, ComesLast}
use Rattle.asset_laws.proofs.SerialBlocks.{IsPart, part_rest, unaborted_rest}

-- all but t
unfoldable pub but : ℕ → ℕ → Bool
but t n = not (eqb n t)

-- ---- without the last one

-- a step of one that does not run reads no value
idle_unrefused : (keep : ℕ → Bool) (some all : List Step) → IsAlike keep some all → (opening : Opening) (step : Step) (reply : Reply) → keep (actor step).0 ≡ true → is_running (status all (actor step).0) ≡ false
    → first_refusal (rules_for opening all step) ≡ None → unrefused opening all step ≡ Answer reply → unrefused opening some step ≡ Answer reply
unfolding unrefused actor rules_for not_running
idle_unrefused keep some all alike opening (Initiate t parent) reply stays idle none is = is
idle_unrefused keep some all alike opening (Begin t) reply stays idle none is = is
idle_unrefused keep some all alike opening (Read t x) reply stays idle none is =
    let first = first_none (unknown all t) _ none in
    let second = first_none (ended all t) _ first.1 in
    absurd (false≢true (sym idle ∙ not-false _ ((first_none (not_running all t) _ second.1).0)))
idle_unrefused keep some all alike opening (Write t x v) reply stays idle none is =
    let first = first_none (unknown all t) _ none in
    let second = first_none (ended all t) _ first.1 in
    absurd (false≢true (sym idle ∙ not-false _ ((first_none (not_running all t) _ second.1).0)))
idle_unrefused keep some all alike opening (Add t x d) reply stays idle none is =
    let first = first_none (unknown all t) _ none in
    let second = first_none (ended all t) _ first.1 in
    absurd (false≢true (sym idle ∙ not-false _ ((first_none (not_running all t) _ second.1).0)))
idle_unrefused keep some all alike opening (Complete t) reply stays idle none is = is
idle_unrefused keep some all alike opening (Permit giver taker obs ops) reply stays idle none is = is
idle_unrefused keep some all alike opening (Delegate giver taker obs) reply stays idle none is = is
idle_unrefused keep some all alike opening (Depend k a b) reply stays idle none is = is
idle_unrefused keep some all alike opening (Commit t) reply stays idle none is = rw (status_alike keep some all alike t.0 stays, may_commit_alike keep some all alike t.0 stays) is
idle_unrefused keep some all alike opening (Abort t) reply stays idle none is = is
idle_unrefused keep some all alike opening (WaitFor t) reply stays idle none is = rw (status_alike keep some all alike t.0 stays) is
idle_unrefused keep some all alike opening (PermitAny giver obs ops) reply stays idle none is = is

idle_answer : (keep : ℕ → Bool) (some all : List Step) → IsAlike keep some all → (opening : Opening) (step : Step) (reply : Reply) → keep (actor step).0 ≡ true → keep (partner step).0 ≡ true → is_running (status all (actor step).0) ≡ false
    → answer opening all step ≡ Answer reply → answer opening some step ≡ Answer reply
unfolding answer outcome_unless
idle_answer keep some all alike opening step reply one other idle is =
    rw (rules_alike keep some all alike opening step one other) (go (first_refusal (rules_for opening all step)) refl is) where
      go : (first : Option Refusal) → first_refusal (rules_for opening all step) ≡ first → outcome_unless first (unrefused opening all step) ≡ Answer reply → outcome_unless first (unrefused opening some step) ≡ Answer reply
      go None e h = idle_unrefused keep some all alike opening step reply one idle e h
      go (Some refusal) e h = h

-- steps on one transaction each respect any choice
single_respects : (keep : ℕ → Bool) (entries : List Entry) → AllSingle entries → Respects keep (applied entries)
unfolding AllSingle Respects applied
single_respects keep [] single = single
single_respects keep (entry ∷ older) single = go (takes_effect entry.0 entry.1) (single_respects keep older single.1) where
  go : (effect : Bool) → Respects keep (applied older) → Respects keep (cond effect (entry.0 ∷ applied older) (applied older))
  go true rest = (ap keep single.0, rest)
  go false rest = rest

pub but_alike : (t : ℕ) (entries : List Entry) → AllSingle entries → IsAlike (but t) (applied (kept (but t) entries)) (applied entries)
but_alike t entries single = rw (kept_applied (but t) entries) (kept_alike (but t) (applied entries) (single_respects (but t) entries single))

pub but_legal : (opening : Opening) (t : ℕ) (entries : List Entry) → IsLegal opening entries → AllSingle entries → ComesLast t entries → IsLegal opening (kept (but t) entries)
unfolding IsLegal AllSingle ComesLast kept but was_committed
but_legal opening t [] legal single last = legal
but_legal opening t (entry ∷ older) legal single last = go (but t (actor entry.0).0) refl (but_legal opening t older legal.1 single.1 last.1) where
  alike : IsAlike (but t) (applied (kept (but t) older)) (applied older)
  alike = but_alike t older single.1

  answered : but t (actor entry.0).0 ≡ true → (eqb (actor entry.0).0 t ≡ true) ⊎ ((end_of (applied older) t ≡ None) ⊎ (is_running (status (applied older) (actor entry.0).0) ≡ false))
      → answer opening (applied (kept (but t) older)) entry.0 ≡ Answer entry.1
  answered stays (inl own) = absurd (false≢true (ap not (sym own) ∙ stays))
  answered stays (inr (inr idle)) = idle_answer (but t) (applied (kept (but t) older)) (applied older) alike opening entry.0 entry.1 stays (ap (but t) (sym single.0) ∙ stays) idle legal.0
  answered stays (inr (inl none)) =
      answer_alike (but t) (applied (kept (but t) older)) (applied older) alike uncommitted (legal_orderly opening older legal.1) opening entry.0 entry.1 stays (ap (but t) (sym single.0) ∙ stays) open_to legal.0 where
        open_to : OpensTo (but t) entry.0 entry.1 (applied older)
        open_to effect x a op on listed = ap (but t) (own_openers entry older (legal_plain opening older legal.1 single.1) last.0.1 effect x a op on listed)

        uncommitted : Uncommitted (but t) (applied older)
        uncommitted n gone = ap (λ m. was_committed (end_of (applied older) m)) (eqb-true n t (not-false _ gone)) ∙ ap was_committed none

  go : (stays : Bool) → but t (actor entry.0).0 ≡ stays → IsLegal opening (kept (but t) older) → IsLegal opening (cond stays (entry ∷ kept (but t) older) (kept (but t) older))
  go true e rest = (answered e last.0.0, rest)
  go false e rest = rest

-- ---- who has committed

-- an end stays
pub end_stays : (step : Step) (older : List Step) (n : ℕ) (end : End) → end_of older n ≡ Some end → end_of (step ∷ older) n ≡ Some end
unfolding end_of
end_stays step older n end is = rw (is) refl

-- what a commit of a live transaction names
by_itself : (t n : ℕ) (alive : Bool) (names : List ℕ) → lists (cond alive (t ∷ []) [] ++ names) n ≡ true → ((alive ≡ true) × (t ≡ n)) ⊎ (lists names n ≡ true)
unfolding lists
by_itself t n true names h = elim (or_cases (eqb t n) _ h) [
  | inl here ↦ inl (refl, eqb-true t n here)
  | inr later ↦ inr later
]
by_itself t n false names h = inr h

-- who is named as committed has committed
named_more : (step : Step) (older : List Step) (n : ℕ) → lists (committed_names (step ∷ older)) n ≡ true → (lists (committed_names older) n ≡ true → end_of older n ≡ Some End'.Committed) → end_of (step ∷ older) n ≡ Some End'.Committed
unfolding committed_names committed_by
named_more (Initiate t parent) older n h before = end_stays (Initiate t parent) older n End'.Committed (before h)
named_more (Begin t) older n h before = end_stays (Begin t) older n End'.Committed (before h)
named_more (Read t x) older n h before = end_stays (Read t x) older n End'.Committed (before h)
named_more (Write t x v) older n h before = end_stays (Write t x v) older n End'.Committed (before h)
named_more (Add t x d) older n h before = end_stays (Add t x d) older n End'.Committed (before h)
named_more (Complete t) older n h before = end_stays (Complete t) older n End'.Committed (before h)
named_more (Permit giver taker obs ops) older n h before = end_stays (Permit giver taker obs ops) older n End'.Committed (before h)
named_more (Delegate giver taker obs) older n h before = end_stays (Delegate giver taker obs) older n End'.Committed (before h)
named_more (Depend k a b) older n h before = end_stays (Depend k a b) older n End'.Committed (before h)
named_more (Commit t) older n h before = elim (by_itself t.0 n (live older t.0) (committed_names older) h) [
  | inl here ↦ commit_ends t older n ∙ rw (sym (ap (commits older t.0) here.1) ∙ commits_itself older t.0 here.0) refl
  | inr later ↦ end_stays (Commit t) older n End'.Committed (before later)
]
named_more (Abort t) older n h before = end_stays (Abort t) older n End'.Committed (before h)
named_more (WaitFor t) older n h before = end_stays (WaitFor t) older n End'.Committed (before h)
named_more (PermitAny giver obs ops) older n h before = end_stays (PermitAny giver obs ops) older n End'.Committed (before h)

pub named_committed : (steps : List Step) (n : ℕ) → lists (committed_names steps) n ≡ true → end_of steps n ≡ Some End'.Committed
unfolding committed_names lists
named_committed [] n h = absurd (false≢true h)
named_committed (step ∷ older) n h = named_more step older n h (named_committed older n)

-- who has committed is named, where each commits alone
committed_more : (step : Step) (older : List Step) → AllPlain older → (n : ℕ) → end_of (step ∷ older) n ≡ Some End'.Committed → (end_of older n ≡ Some End'.Committed → lists (committed_names older) n ≡ true) → lists (committed_names (step ∷ older)) n ≡ true
unfolding committed_names committed_by EndsNobody ended_by lists
committed_more (Initiate t parent) older all n is before = before (sym (end_same (Initiate t parent) older n (λ l o m. refl)) ∙ is)
committed_more (Begin t) older all n is before = before (sym (end_same (Begin t) older n (λ l o m. refl)) ∙ is)
committed_more (Read t x) older all n is before = before (sym (end_same (Read t x) older n (λ l o m. refl)) ∙ is)
committed_more (Write t x v) older all n is before = before (sym (end_same (Write t x v) older n (λ l o m. refl)) ∙ is)
committed_more (Add t x d) older all n is before = before (sym (end_same (Add t x d) older n (λ l o m. refl)) ∙ is)
committed_more (Complete t) older all n is before = before (sym (end_same (Complete t) older n (λ l o m. refl)) ∙ is)
committed_more (Permit giver taker obs ops) older all n is before = before (sym (end_same (Permit giver taker obs ops) older n (λ l o m. refl)) ∙ is)
committed_more (Delegate giver taker obs) older all n is before = before (sym (end_same (Delegate giver taker obs) older n (λ l o m. refl)) ∙ is)
committed_more (Depend k a b) older all n is before = before (sym (end_same (Depend k a b) older n (λ l o m. refl)) ∙ is)
committed_more (Commit t) older all n is before = go (live older t.0) refl (eqb t.0 n) refl where
  ends : end_of (Commit t ∷ older) n ≡ cond (live older t.0 && eqb t.0 n) (Some End'.Committed) (end_of older n)
  ends = commit_ends t older n ∙ rw (commits_plain older all t.0 n) refl

  go : (alive : Bool) → live older t.0 ≡ alive → (here : Bool) → eqb t.0 n ≡ here → list_any (λ m. eqb m n) (cond alive (t.0 ∷ []) [] ++ committed_names older) ≡ true
  go true e true f = or_left _ _ f
  go true e false f = or_right (eqb t.0 n) _ (before (sym (rw (e, f) at ends) ∙ is))
  go false e here f = before (sym (rw (e) at ends) ∙ is)
committed_more (Abort t) older all n is before = go (aborts older t.0 n) (sym (abort_ends t older n) ∙ is) where
  go : (ends : Bool) → cond ends (Some End'.Aborted) (end_of older n) ≡ Some End'.Committed → list_any (λ m. eqb m n) (committed_names older) ≡ true
  go true h = cc
  go false h = before h
committed_more (WaitFor t) older all n is before = before (sym (end_same (WaitFor t) older n (λ l o m. refl)) ∙ is)
committed_more (PermitAny giver obs ops) older all n is before = before (sym (end_same (PermitAny giver obs ops) older n (λ l o m. refl)) ∙ is)

pub committed_named : (steps : List Step) → AllPlain steps → (n : ℕ) → end_of steps n ≡ Some End'.Committed → lists (committed_names steps) n ≡ true
unfolding AllPlain end_of
committed_named [] all n is = absurd cc
committed_named (step ∷ older) all n is = committed_more step older all.1 n is (committed_named older all.1 n)

-- nobody is named twice
pub named_once : (steps : List Step) → Distinct (committed_names steps)
unfolding committed_names committed_by
named_once [] = tt
named_once (Initiate t parent ∷ older) = named_once older
named_once (Begin t ∷ older) = named_once older
named_once (Read t x ∷ older) = named_once older
named_once (Write t x v ∷ older) = named_once older
named_once (Add t x d ∷ older) = named_once older
named_once (Complete t ∷ older) = named_once older
named_once (Permit giver taker obs ops ∷ older) = named_once older
named_once (Delegate giver taker obs ∷ older) = named_once older
named_once (Depend k a b ∷ older) = named_once older
named_once (Commit t ∷ older) = go (live older t.0) refl (named_once older) where
  absent : live older t.0 ≡ true → (b : Bool) → lists (committed_names older) t.0 ≡ b → b ≡ false
  absent alive false e = refl
  absent alive true e = let ended = sym (named_committed older t.0 e) ∙ (live_parts older t.0 alive).1 in absurd cc

  go : (alive : Bool) → live older t.0 ≡ alive → Distinct (committed_names older) → Distinct (cond alive (t.0 ∷ []) [] ++ committed_names older)
  go true e rest = (absent e (lists (committed_names older) t.0) refl, rest)
  go false e rest = rest
named_once (Abort t ∷ older) = named_once older
named_once (WaitFor t ∷ older) = named_once older
named_once (PermitAny giver obs ops ∷ older) = named_once older

-- ---- the last one

end_persists : (newer older : List Entry) (n : ℕ) (end : End) → end_of (applied older) n ≡ Some end → end_of (applied (newer ++ older)) n ≡ Some end
unfolding applied
end_persists [] older n end is = is
end_persists (entry ∷ newer) older n end is = go (takes_effect entry.0 entry.1) (end_persists newer older n end is) where
  go : (effect : Bool) → end_of (applied (newer ++ older)) n ≡ Some end → end_of (cond effect (entry.0 ∷ applied (newer ++ older)) (applied (newer ++ older))) n ≡ Some end
  go true h = end_stays entry.0 (applied (newer ++ older)) n end h
  go false h = h

-- once the last one has committed nobody does
settled_more : (step : Step) (older : List Step) (t : ℕ) (names : List ℕ) → end_of older t ≡ Some End'.Committed → committed_names (step ∷ older) ≡ t ∷ names → committed_names (step ∷ older) ≡ committed_names older
unfolding committed_names committed_by
settled_more (Initiate t parent) older n names ended is = refl
settled_more (Begin t) older n names ended is = refl
settled_more (Read t x) older n names ended is = refl
settled_more (Write t x v) older n names ended is = refl
settled_more (Add t x d) older n names ended is = refl
settled_more (Complete t) older n names ended is = refl
settled_more (Permit giver taker obs ops) older n names ended is = refl
settled_more (Delegate giver taker obs) older n names ended is = refl
settled_more (Depend k a b) older n names ended is = refl
settled_more (Commit u) older t names ended is = go (live older u.0) refl is where
  go : (alive : Bool) → live older u.0 ≡ alive → cond alive (u.0 ∷ []) [] ++ committed_names older ≡ t ∷ names → cond alive (u.0 ∷ []) [] ++ committed_names older ≡ committed_names older
  go false e h = refl
  go true e h =
      let same : u.0 ≡ t = cc in
      let none = sym ended ∙ (live_parts older t (ap (live older) (sym same) ∙ e)).1 in
      absurd cc
settled_more (Abort t) older n names ended is = refl
settled_more (WaitFor t) older n names ended is = refl
settled_more (PermitAny giver obs ops) older n names ended is = refl

settled : (newer older : List Entry) (t : ℕ) (names : List ℕ) → end_of (applied older) t ≡ Some End'.Committed → committed_names (applied (newer ++ older)) ≡ t ∷ names → committed_names (applied (newer ++ older)) ≡ committed_names (applied older)
unfolding applied
settled [] older t names ended is = refl
settled (entry ∷ newer) older t names ended is = go (takes_effect entry.0 entry.1) is (settled newer older t names ended) where
  now : end_of (applied (newer ++ older)) t ≡ Some End'.Committed
  now = end_persists newer older t End'.Committed ended

  go : (effect : Bool) → committed_names (cond effect (entry.0 ∷ applied (newer ++ older)) (applied (newer ++ older))) ≡ t ∷ names
      → (committed_names (applied (newer ++ older)) ≡ t ∷ names → committed_names (applied (newer ++ older)) ≡ committed_names (applied older))
      → committed_names (cond effect (entry.0 ∷ applied (newer ++ older)) (applied (newer ++ older))) ≡ committed_names (applied older)
  go true h rest = let step = settled_more entry.0 (applied (newer ++ older)) t names now h in step ∙ rest (sym step ∙ h)
  go false h rest = rest h

-- each entry is of one who is named
unfoldable pub AllNamed : List ℕ → List Entry → Type 0
AllNamed names [] = Unit {0}
AllNamed names (entry ∷ older) = (lists names (actor entry.0).0 ≡ true) × AllNamed names older

named_part : (names : List ℕ) (newer older : List Entry) → AllNamed names (newer ++ older) → AllNamed names older
unfolding AllNamed
named_part names [] older all = all
named_part names (entry ∷ newer) older all = named_part names newer older all.1

named_head : (names : List ℕ) (entry : Entry) (older : List Entry) → AllNamed names (entry ∷ older) → lists names (actor entry.0).0 ≡ true
unfolding AllNamed
named_head names entry older all = all.0

-- one who has ended does not run
ended_idle : (steps : List Step) (n : ℕ) → end_of steps n ≡ Some End'.Committed → is_running (status steps n) ≡ false
unfolding status status_of is_running
ended_idle steps n is = rw (is) (go (lists (initiated steps) n) (lists (begun steps) n) (lists (completed steps) n)) where
  go : (i b c : Bool) → is_running (status_of i b c (Some End'.Committed)) ≡ false
  go false b c = refl
  go true b c = refl

pub comes : (opening : Opening) (t : ℕ) (names : List ℕ) (all : List Entry) → IsLegal opening all → AllSingle all → AllOwnOpens all → NobodyAborted (applied all) → committed_names (applied all) ≡ t ∷ names → AllNamed (t ∷ names) all
    → (entries : List Entry) → IsPart all entries → ComesLast t entries
unfolding ComesLast was_aborted
comes opening t names all legal single opens unaborted is named [] part = tt
comes opening t names all legal single opens unaborted is named (entry ∷ older) part =
    ((go (eqb (actor entry.0).0 t) refl (end_of (applied older) t) refl, own_opens_head entry older (own_opens_rest part.0 (entry ∷ older) (subst AllOwnOpens (sym part.1) opens))), comes opening t names all legal single opens unaborted is named older (part_rest all entry older part)) where
      shorter : IsPart all older
      shorter = part_rest all entry older part

      unaborted_older : NobodyAborted (applied older)
      unaborted_older = unaborted_rest shorter.0 older (subst (λ l. NobodyAborted (applied l)) (sym shorter.1) unaborted)

      listed : lists (t ∷ names) (actor entry.0).0 ≡ true
      listed = named_head (t ∷ names) entry older (named_part (t ∷ names) part.0 (entry ∷ older) (subst (AllNamed (t ∷ names)) (sym part.1) named))

      idle : end_of (applied older) t ≡ Some End'.Committed → is_running (status (applied older) (actor entry.0).0) ≡ false
      idle ended =
          let same = settled shorter.0 older t names ended (ap (λ l. committed_names (applied l)) shorter.1 ∙ is) in
          ended_idle (applied older) (actor entry.0).0 (named_committed (applied older) (actor entry.0).0
          (ap (λ l. lists l (actor entry.0).0) (sym same ∙ ap (λ l. committed_names (applied l)) shorter.1 ∙ is) ∙ listed))

      go : (own : Bool) → eqb (actor entry.0).0 t ≡ own → (end : Option End) → end_of (applied older) t ≡ end
          → (eqb (actor entry.0).0 t ≡ true) ⊎ ((end_of (applied older) t ≡ None) ⊎ (is_running (status (applied older) (actor entry.0).0) ≡ false))
      go true e end f = inl e
      go false e None f = inr (inl f)
      go false e (Some End'.Committed) f = inr (inr (idle f))
      go false e (Some End'.Aborted) f = absurd (false≢true (sym (unaborted_older t) ∙ aborted f)) where
        aborted : end_of (applied older) t ≡ Some End'.Aborted → was_aborted (end_of (applied older) t) ≡ true
        aborted h = ap was_aborted h
