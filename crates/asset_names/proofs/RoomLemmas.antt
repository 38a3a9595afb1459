-- How the entries that are owed change with a step.
use Rattle.std.proofs.Common.{◌≡◌, ℕ, ◌+◌, ◌≤◌, Bool, true, false, cond, eqb, ◌&&◌, ◌||◌, List, [], ◌∷◌, length, Some, None, refl, sym, ◌∙◌, ap, subst, arith, ◌⊎◌, inl, inr}
use Rattle.std.specs.Prelude.{Option, is_none, is_some, sum_by}
use Rattle.std.proofs.lemmas.List.Sums.{sum_by-cons}
use Rattle.std.proofs.lemmas.Bool.{or_cases, or_left, or_right, eqb-true, eq-eqb, eqb-false, ne_eqb, false≢true, true≢false, and_parts, leb-true, le-leb}
use Rattle.asset_names.specs.declared.statuses.End.{End}
use Rattle.asset_names.specs.declared.statuses.End.TheVariants as End'
use Rattle.asset_names.specs.declared.names.Txn.{Txn}
use Rattle.asset_names.specs.declared.steps.Step.{Step}
use Rattle.asset_names.specs.declared.steps.Step.TheVariants.{Initiate, Begin, Read, Write, Add, Complete, Permit, PermitAny, Delegate, Depend, Commit, Abort, WaitFor}
use Rattle.asset_names.specs.Arrows.{lists}
use Rattle.asset_names.specs.Steps.{Opening, Entry, takes_effect, applied, initiated, initiated_by, begun, completed, completed_by}
use Rattle.asset_names.specs.Endings.{ended_by, end_of, live, status, status_of}
use Rattle.asset_names.specs.declared.replies.Reply.{Reply}
use Rattle.asset_names.specs.declared.replies.Outcome.TheVariants.{Answer}
use Rattle.asset_names.specs.Answers.{is_running, answer, IsLegal}
use Rattle.asset_names.specs.Room.{owed_to, owed, fits, changes_status, initiates}
use Rattle.asset_names.proofs.LegalLemmas.{initiate_new, running_parts, complete_runs, legal_orderly, ended_initiated}
use Rattle.asset_names.specs.Orderly.{Distinct, IsOrderly}
use Rattle.asset_names.proofs.Common.{option_or_none}
use Rattle.asset_names.proofs.EndLemmas.{live_parts, commits, aborts, commits_itself, aborts_itself, commits_nobody, aborts_nobody, Ending, commit_ends, abort_ends}

-- sums of what is the same for each listed name
pub sum_same : (f g : ℕ → ℕ) (names : List ℕ) → ((n : ℕ) → lists names n ≡ true → g n ≡ f n) → sum_by g names ≡ sum_by f names
unfolding lists
sum_same f g [] same = refl
sum_same f g (n ∷ names) same =
    let first : g n ≡ f n = same n (or_left (eqb n n) _ (eq-eqb n n refl)) in
    let later = sum_same f g names (λ m listed. same m (or_right (eqb n m) _ listed)) in
    sum_by-cons g n names ∙ ap (λ k. k + sum_by g names) first ∙ ap (λ k. f n + k) later ∙ sym (sum_by-cons f n names)

-- sums of what differs for one name of different ones
sum_change : (f g : ℕ → ℕ) (names : List ℕ) (t : ℕ) → Distinct names → lists names t ≡ true → ((n : ℕ) → eqb n t ≡ false → g n ≡ f n) → sum_by g names + f t ≡ sum_by f names + g t
unfolding lists
sum_change f g [] t different listed same = absurd (false≢true listed)
sum_change f g (n ∷ names) t different listed same = go (eqb n t) refl (or_cases (eqb n t) (lists names t) listed) (λ later. sum_change f g names t different.1 later same) where
  other : (m : ℕ) → eqb n t ≡ true → lists names m ≡ true → eqb m t ≡ false
  other m here listed = ne_eqb m t (λ e. false≢true (sym different.0 ∙ subst (λ k. lists names k ≡ true) (e ∙ sym (eqb-true n t here)) listed))

  go : (here : Bool) → eqb n t ≡ here → (eqb n t ≡ true) ⊎ (lists names t ≡ true) → (lists names t ≡ true → sum_by g names + f t ≡ sum_by f names + g t) → sum_by g (n ∷ names) + f t ≡ sum_by f (n ∷ names) + g t
  go true e w induction =
      let rest = sum_same f g names (λ m listed. same m (other m e listed)) in
      let is = eqb-true n t e in
      omega (arith, sum_by-cons f n names, sum_by-cons g n names, rest, ap f is, ap g is)
  go false e (inl here) induction = absurd (false≢true (sym e ∙ here))
  go false e (inr later) induction =
      omega (arith, sum_by-cons f n names, sum_by-cons g n names, induction later, same n e)

-- what a name is owed, by whether it was initiated and has completed and how it ended
owed_parts : Bool → Bool → Option End → ℕ
owed_parts false completed end = 0
owed_parts true completed (Some end) = 0
owed_parts true true None = 1
owed_parts true false None = 2

owed_by_parts : (steps : List Step) (n : ℕ) → owed_to (status steps n) ≡ owed_parts (lists (initiated steps) n) (lists (completed steps) n) (end_of steps n)
unfolding owed_to owed_parts status status_of
owed_by_parts steps n = go (lists (initiated steps) n) (lists (begun steps) n) (lists (completed steps) n) (end_of steps n) where
  go : (i b c : Bool) (e : Option End) → owed_to (status_of i b c e) ≡ owed_parts i c e
  go false b c e = refl
  go true b c (Some End'.Committed) = refl
  go true b c (Some End'.Aborted) = refl
  go true b true None = refl
  go true true false None = refl
  go true false false None = refl

-- the same parts are owed the same
same_parts : (steps later : List Step) (n : ℕ) → lists (initiated later) n ≡ lists (initiated steps) n → lists (completed later) n ≡ lists (completed steps) n → end_of later n ≡ end_of steps n
    → owed_to (status later n) ≡ owed_to (status steps n)
same_parts steps later n i c e = owed_by_parts later n ∙ rw (i, c, e) (sym (owed_by_parts steps n))

-- a step that initiates, completes and ends nobody
pub owed_begin : (t : Txn) (steps : List Step) → owed (Begin t ∷ steps) ≡ owed steps
unfolding owed initiated initiated_by completed completed_by end_of ended_by
owed_begin t steps = sum_same _ _ (initiated steps) (λ n listed. same_parts steps (Begin t ∷ steps) n refl refl (option_or_none (end_of steps n)))

pub owed_read : (t : Txn) (x : _) (steps : List Step) → owed (Read t x ∷ steps) ≡ owed steps
unfolding owed initiated initiated_by completed completed_by end_of ended_by
owed_read t x steps = sum_same _ _ (initiated steps) (λ n listed. same_parts steps (Read t x ∷ steps) n refl refl (option_or_none (end_of steps n)))

pub owed_write : (t : Txn) (x : _) (v : _) (steps : List Step) → owed (Write t x v ∷ steps) ≡ owed steps
unfolding owed initiated initiated_by completed completed_by end_of ended_by
owed_write t x v steps = sum_same _ _ (initiated steps) (λ n listed. same_parts steps (Write t x v ∷ steps) n refl refl (option_or_none (end_of steps n)))

pub owed_add : (t : Txn) (x : _) (d : _) (steps : List Step) → owed (Add t x d ∷ steps) ≡ owed steps
unfolding owed initiated initiated_by completed completed_by end_of ended_by
owed_add t x d steps = sum_same _ _ (initiated steps) (λ n listed. same_parts steps (Add t x d ∷ steps) n refl refl (option_or_none (end_of steps n)))

pub owed_permit : (giver taker : Txn) (obs : _) (ops : _) (steps : List Step) → owed (Permit giver taker obs ops ∷ steps) ≡ owed steps
unfolding owed initiated initiated_by completed completed_by end_of ended_by
owed_permit giver taker obs ops steps = sum_same _ _ (initiated steps) (λ n listed. same_parts steps (Permit giver taker obs ops ∷ steps) n refl refl (option_or_none (end_of steps n)))

pub owed_open : (giver : Txn) (obs : _) (ops : _) (steps : List Step) → owed (PermitAny giver obs ops ∷ steps) ≡ owed steps
unfolding owed initiated initiated_by completed completed_by end_of ended_by
owed_open giver obs ops steps = sum_same _ _ (initiated steps) (λ n listed. same_parts steps (PermitAny giver obs ops ∷ steps) n refl refl (option_or_none (end_of steps n)))

pub owed_delegate : (giver taker : Txn) (obs : _) (steps : List Step) → owed (Delegate giver taker obs ∷ steps) ≡ owed steps
unfolding owed initiated initiated_by completed completed_by end_of ended_by
owed_delegate giver taker obs steps = sum_same _ _ (initiated steps) (λ n listed. same_parts steps (Delegate giver taker obs ∷ steps) n refl refl (option_or_none (end_of steps n)))

pub owed_depend : (kind : _) (a b : Txn) (steps : List Step) → owed (Depend kind a b ∷ steps) ≡ owed steps
unfolding owed initiated initiated_by completed completed_by end_of ended_by
owed_depend kind a b steps = sum_same _ _ (initiated steps) (λ n listed. same_parts steps (Depend kind a b ∷ steps) n refl refl (option_or_none (end_of steps n)))

pub owed_wait : (t : Txn) (steps : List Step) → owed (WaitFor t ∷ steps) ≡ owed steps
unfolding owed initiated initiated_by completed completed_by end_of ended_by
owed_wait t steps = sum_same _ _ (initiated steps) (λ n listed. same_parts steps (WaitFor t ∷ steps) n refl refl (option_or_none (end_of steps n)))

-- what holds only of who was initiated does not hold of who was not
not_known : (c i : Bool) → (c ≡ true → i ≡ true) → i ≡ false → c ≡ false
not_known false i known new = refl
not_known true i known new = absurd (false≢true (sym new ∙ known refl))

not_ended : (e : Option End) (i : Bool) → (is_some e ≡ true → i ≡ true) → i ≡ false → e ≡ None
not_ended None i known new = refl
not_ended (Some end) i known new = absurd (false≢true (sym new ∙ known refl))

-- a new name is owed two entries
pub owed_initiate : (t : Txn) (parent : _) (steps : List Step) → IsOrderly steps → lists (initiated steps) t.0 ≡ false → owed (Initiate t parent ∷ steps) ≡ owed steps + 2
unfolding owed initiated initiated_by completed completed_by end_of ended_by lists owed_parts
owed_initiate t parent steps orderly new =
    let later = Initiate t parent ∷ steps in
    let incomplete = not_known (lists (completed steps) t.0) (lists (initiated steps) t.0) (orderly.completed_known t.0) new in
    let alive = not_ended (end_of steps t.0) (lists (initiated steps) t.0) (ended_initiated steps t.0) new in
    let first : owed_to (status later t.0) ≡ 2 =
    owed_by_parts later t.0 ∙ rw (or_left (eqb t.0 t.0) (lists (initiated steps) t.0) (eq-eqb t.0 t.0 refl), incomplete, alive) refl in
    let rest = sum_same (λ n. owed_to (status steps n)) (λ n. owed_to (status later n)) (initiated steps)
    (λ n listed. same_parts steps later n (or_right (eqb t.0 n) _ listed ∙ sym listed) refl (option_or_none (end_of steps n))) in
    omega (arith, sum_by-cons (λ n. owed_to (status later n)) t.0 (initiated steps), first, rest)

-- who completes is owed one entry less
pub owed_complete : (t : Txn) (steps : List Step) → IsOrderly steps → is_running (status steps t.0) ≡ true → owed (Complete t ∷ steps) + 1 ≡ owed steps
unfolding owed initiated initiated_by completed completed_by end_of ended_by lists owed_parts
owed_complete t steps orderly runs =
    let later = Complete t ∷ steps in
    let parts = running_parts steps t.0 runs in
    let before : owed_to (status steps t.0) ≡ 2 = owed_by_parts steps t.0 ∙ rw (parts.0, parts.1, parts.2) refl in
    let after : owed_to (status later t.0) ≡ 1 =
    owed_by_parts later t.0 ∙ rw (parts.0, or_left (eqb t.0 t.0) (lists (completed steps) t.0) (eq-eqb t.0 t.0 refl), option_or_none (end_of steps t.0), parts.2) refl in
    let change = sum_change (λ n. owed_to (status steps n)) (λ n. owed_to (status later n)) (initiated steps) t.0 orderly.different parts.0
    (λ n other. same_parts steps later n refl (ap (λ b. b || lists (completed steps) n) (ne_eqb t.0 n (λ e. eqb-false n t.0 other (sym e)))) (option_or_none (end_of steps n))) in
    omega (arith, before, after, change)

-- who is live is owed something
pub owed_live : (steps : List Step) (t : ℕ) → live steps t ≡ true → 1 ≤ owed_to (status steps t)
unfolding live owed_parts
owed_live steps t alive = rw (owed_by_parts steps t) (go (lists (initiated steps) t) (lists (completed steps) t) (end_of steps t) alive) where
  go : (i c : Bool) (e : Option End) → (i && is_none e) ≡ true → 1 ≤ owed_parts i c e
  go false c e h = absurd (false≢true h)
  go true c (Some e) h = absurd (false≢true h)
  go true true None h = omega arith
  go true false None h = omega arith

-- no part of a sum grows, and that of one listed name falls: so the sum falls
sum_grows_not : (f g : ℕ → ℕ) (names : List ℕ) → ((n : ℕ) → g n ≤ f n) → sum_by g names ≤ sum_by f names
sum_grows_not f g [] le = omega arith
sum_grows_not f g (n ∷ names) le = omega (arith, sum_by-cons f n names, sum_by-cons g n names, le n, sum_grows_not f g names le)

sum_falls : (f g : ℕ → ℕ) (names : List ℕ) (t : ℕ) → ((n : ℕ) → g n ≤ f n) → lists names t ≡ true → g t + 1 ≤ f t → sum_by g names + 1 ≤ sum_by f names
unfolding lists
sum_falls f g [] t le listed less = absurd (false≢true listed)
sum_falls f g (n ∷ names) t le listed less = elim (or_cases (eqb n t) (lists names t) listed) [
  | inl here ↦
      let is = eqb-true n t here in
      omega (arith, sum_by-cons f n names, sum_by-cons g n names, ap f is, ap g is, less, sum_grows_not f g names le)
  | inr later ↦ omega (arith, sum_by-cons f n names, sum_by-cons g n names, le n, sum_falls f g names t le later less)
]

-- who ends is owed nothing any more, and the others what they were
owed_ended : (test : ℕ → Bool) (how : End) (steps later : List Step) → initiated later ≡ initiated steps → completed later ≡ completed steps → Ending test how (end_of steps) (end_of later)
    → (n : ℕ) → owed_to (status later n) ≡ cond (test n) 0 (owed_to (status steps n))
unfolding owed_parts
owed_ended test how steps later names done ends n = owed_by_parts later n ∙ rw (names, done, ends n, owed_by_parts steps n) (go (test n) (lists (initiated steps) n) (lists (completed steps) n) (end_of steps n)) where
  go : (gone i c : Bool) (e : Option End) → owed_parts i c (cond gone (Some how) e) ≡ cond gone 0 (owed_parts i c e)
  go true true c e = refl
  go true false c e = refl
  go false i c e = refl

-- an end of a live transaction frees at least one entry, and one that ends nobody frees none
owed_end : (test : ℕ → Bool) (how : End) (steps later : List Step) → initiated later ≡ initiated steps → completed later ≡ completed steps → Ending test how (end_of steps) (end_of later)
    → (t : ℕ) → test t ≡ true → live steps t ≡ true → owed later + 1 ≤ owed steps
unfolding owed
owed_end test how steps later names done ends t here alive =
    let after = owed_ended test how steps later names done ends in
    let over : sum_by (λ n. owed_to (status later n)) (initiated later) ≡ sum_by (λ n. owed_to (status later n)) (initiated steps) = ap (λ ns. sum_by (λ n. owed_to (status later n)) ns) names in
    let none : owed_to (status later t) ≡ 0 = after t ∙ rw here refl in
    omega (arith, over, sum_falls (λ n. owed_to (status steps n)) (λ n. owed_to (status later n)) (initiated steps) t (λ n. no_more (test n) _ _ (after n)) (live_parts steps t alive).0 (omega (arith, none, owed_live steps t alive)))
  where
    no_more : (gone : Bool) (one other : ℕ) → one ≡ cond gone 0 other → one ≤ other
    no_more true one other is = omega (arith, is)
    no_more false one other is = omega (arith, is)

owed_unended : (test : ℕ → Bool) (how : End) (steps later : List Step) → initiated later ≡ initiated steps → completed later ≡ completed steps → Ending test how (end_of steps) (end_of later)
    → ((n : ℕ) → test n ≡ false) → owed later ≡ owed steps
unfolding owed
owed_unended test how steps later names done ends nobody =
    ap (λ ns. sum_by (λ n. owed_to (status later n)) ns) names
    ∙ sum_same (λ n. owed_to (status steps n)) (λ n. owed_to (status later n)) (initiated steps) (λ n listed. owed_ended test how steps later names done ends n ∙ rw (nobody n) refl)

pub owed_commit : (t : Txn) (steps : List Step) → live steps t.0 ≡ true → owed (Commit t ∷ steps) + 1 ≤ owed steps
unfolding initiated initiated_by completed completed_by
owed_commit t steps alive = owed_end (commits steps t.0) End'.Committed steps (Commit t ∷ steps) refl refl (commit_ends t steps) t.0 (commits_itself steps t.0 alive) alive

pub owed_abort : (t : Txn) (steps : List Step) → live steps t.0 ≡ true → owed (Abort t ∷ steps) + 1 ≤ owed steps
unfolding initiated initiated_by completed completed_by
owed_abort t steps alive = owed_end (aborts steps t.0) End'.Aborted steps (Abort t ∷ steps) refl refl (abort_ends t steps) t.0 (aborts_itself steps t.0 alive) alive

-- an initiate that took effect is owed two entries
pub owed_new : (opening : Opening) (steps : List Step) (step : Step) (reply : Reply) → IsOrderly steps → answer opening steps step ≡ Answer reply → takes_effect step reply ≡ true → initiates step ≡ true → owed (step ∷ steps) ≡ owed steps + 2
unfolding initiates
owed_new opening steps (Initiate t parent) reply orderly is effect new = owed_initiate t parent steps orderly (initiate_new opening steps t parent reply is effect)
owed_new opening steps (Begin t) reply orderly is effect new = absurd (false≢true new)
owed_new opening steps (Read t x) reply orderly is effect new = absurd (false≢true new)
owed_new opening steps (Write t x v) reply orderly is effect new = absurd (false≢true new)
owed_new opening steps (Add t x d) reply orderly is effect new = absurd (false≢true new)
owed_new opening steps (Complete t) reply orderly is effect new = absurd (false≢true new)
owed_new opening steps (Permit giver taker obs ops) reply orderly is effect new = absurd (false≢true new)
owed_new opening steps (Delegate giver taker obs) reply orderly is effect new = absurd (false≢true new)
owed_new opening steps (Depend kind a b) reply orderly is effect new = absurd (false≢true new)
owed_new opening steps (Commit t) reply orderly is effect new = absurd (false≢true new)
owed_new opening steps (Abort t) reply orderly is effect new = absurd (false≢true new)
owed_new opening steps (WaitFor t) reply orderly is effect new = absurd (false≢true new)
owed_new opening steps (PermitAny giver obs ops) reply orderly is effect new = absurd (false≢true new)

-- a step that took effect, initiates nobody, and is no complete, commit or abort that changes a status leaves what is owed
pub owed_stays : (steps : List Step) (step : Step) (reply : Reply) → IsOrderly steps → takes_effect step reply ≡ true → changes_status steps step reply ≡ false → initiates step ≡ false → owed (step ∷ steps) ≡ owed steps
unfolding initiates changes_status initiated initiated_by completed completed_by
owed_stays steps (Initiate t parent) reply orderly effect quiet other = absurd (true≢false other)
owed_stays steps (Begin t) reply orderly effect quiet other = owed_begin t steps
owed_stays steps (Read t x) reply orderly effect quiet other = owed_read t x steps
owed_stays steps (Write t x v) reply orderly effect quiet other = owed_write t x v steps
owed_stays steps (Add t x d) reply orderly effect quiet other = owed_add t x d steps
owed_stays steps (Complete t) reply orderly effect quiet other = absurd (true≢false (sym effect ∙ quiet))
owed_stays steps (Permit giver taker obs ops) reply orderly effect quiet other = owed_permit giver taker obs ops steps
owed_stays steps (Delegate giver taker obs) reply orderly effect quiet other = owed_delegate giver taker obs steps
owed_stays steps (Depend kind a b) reply orderly effect quiet other = owed_depend kind a b steps
owed_stays steps (Commit t) reply orderly effect quiet other =
    let dead : live steps t.0 ≡ false = sym (ap (λ b. b && live steps t.0) effect) ∙ quiet in
    owed_unended (commits steps t.0) End'.Committed steps (Commit t ∷ steps) refl refl (commit_ends t steps) (λ n. commits_nobody steps t.0 n dead)
owed_stays steps (Abort t) reply orderly effect quiet other =
    let dead : live steps t.0 ≡ false = sym (ap (λ b. b && live steps t.0) effect) ∙ quiet in
    owed_unended (aborts steps t.0) End'.Aborted steps (Abort t ∷ steps) refl refl (abort_ends t steps) (λ n. aborts_nobody steps t.0 n dead)
owed_stays steps (WaitFor t) reply orderly effect quiet other = owed_wait t steps
owed_stays steps (PermitAny giver obs ops) reply orderly effect quiet other = owed_open giver obs ops steps

-- a step that changes a status for good frees at least the entry that it takes
owed_less : (opening : Opening) (steps : List Step) (step : Step) (reply : Reply) → IsOrderly steps → answer opening steps step ≡ Answer reply → changes_status steps step reply ≡ true → (takes_effect step reply ≡ true) × (owed (step ∷ steps) + 1 ≤ owed steps)
unfolding changes_status
owed_less opening steps (Complete t) reply orderly is changes = (changes, omega (arith, owed_complete t steps orderly (complete_runs opening steps t reply is changes)))
owed_less opening steps (Commit t) reply orderly is changes =
    let parts = and_parts _ (live steps t.0) changes in
    (parts.0, owed_commit t steps parts.1)
owed_less opening steps (Abort t) reply orderly is changes =
    let parts = and_parts _ (live steps t.0) changes in
    (parts.0, owed_abort t steps parts.1)
owed_less opening steps (Initiate t parent) reply orderly is changes = absurd (false≢true changes)
owed_less opening steps (Begin t) reply orderly is changes = absurd (false≢true changes)
owed_less opening steps (Read t x) reply orderly is changes = absurd (false≢true changes)
owed_less opening steps (Write t x v) reply orderly is changes = absurd (false≢true changes)
owed_less opening steps (Add t x d) reply orderly is changes = absurd (false≢true changes)
owed_less opening steps (Permit giver taker obs ops) reply orderly is changes = absurd (false≢true changes)
owed_less opening steps (Delegate giver taker obs) reply orderly is changes = absurd (false≢true changes)
owed_less opening steps (Depend kind a b) reply orderly is changes = absurd (false≢true changes)
owed_less opening steps (WaitFor t) reply orderly is changes = absurd (false≢true changes)
owed_less opening steps (PermitAny giver obs ops) reply orderly is changes = absurd (false≢true changes)

-- such a step finds room in each legal history that fits
pub ending_fits : (opening : Opening) (entries : List Entry) (step : Step) (reply : Reply) (room : ℕ) → IsLegal opening entries → fits (applied entries) (length entries) room ≡ true
    → answer opening (applied entries) step ≡ Answer reply → changes_status (applied entries) step reply ≡ true → fits (applied ((step, reply) ∷ entries)) (length entries + 1) room ≡ true
unfolding fits applied
ending_fits opening entries step reply room legal fitted is changes =
    let less = owed_less opening (applied entries) step reply (legal_orderly opening entries legal) is changes in
    rw less.0 (le-leb _ _ (omega (arith, leb-true _ _ fitted, less.1)))
