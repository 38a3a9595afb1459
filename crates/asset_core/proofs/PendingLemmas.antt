-- The pending requests after a step.
use Rattle.std.proofs.Common.{◌≡◌, ℕ, Bool, true, false, cond, not, eqb, ◌&&◌, ◌||◌, List, [], ◌∷◌, ◌++◌, filter, reverse, map, refl, sym, ◌∙◌, ap, subst, arith, Some, None, inl, inr, ◌⊎◌}
use Rattle.std.specs.Prelude.{Option, find, flat_map}
use Rattle.std.proofs.lemmas.List.{map-append, append-nil}
use Rattle.std.proofs.lemmas.Bool.{eqb-true, eq-eqb, or_cases, or_left, or_right, false≢true}
use Rattle.asset_names.specs.declared.names.Txn.{Txn}
use Rattle.asset_names.specs.declared.names.Ob.{Ob}
use Rattle.asset_names.specs.declared.operations.Op.{Op}
use Rattle.asset_names.specs.declared.operations.Op.TheVariants as Op'
use Rattle.asset_names.specs.declared.steps.Step.{Step}
use Rattle.asset_names.specs.declared.steps.Step.TheVariants.{Initiate, Begin, Read, Write, Add, Complete, Permit, PermitAny, Delegate, Depend, Commit, Abort, WaitFor}
use Rattle.asset_names.specs.declared.replies.Reply.{Reply}
use Rattle.asset_names.specs.declared.replies.Outcome.{Outcome}
use Rattle.asset_names.specs.declared.replies.Outcome.TheVariants.{Answer, Wait}
use Rattle.asset_names.specs.Arrows.{lists}
use Rattle.asset_names.specs.Steps.{Opening, takes_effect, initiated, initiated_by}
use Rattle.asset_names.specs.Sources.{is_operation}
use Rattle.asset_names.specs.Endings.{live, is_live_status}
use Rattle.asset_names.specs.Answers.{outcome_takes_effect}
use Rattle.asset_names.proofs.LiveLemmas.{live_initiate, live_commit, live_abort}
use Rattle.asset_names.proofs.EndLemmas.{commits, aborts, commits_nobody, aborts_nobody}
use Rattle.asset_ends.proofs.DependLaws.{commits_shown, aborts_shown, depend_ends}
use Rattle.asset_deps.specs.Dependencies.{class_in, doomed_in}
use Rattle.asset_names.specs.OpSets.{OpSet}
use Rattle.asset_names.specs.declared.sets.ObSet.{ObSet}
use Rattle.asset_names.proofs.DelegateLemmas.{live_delegated}
use Rattle.asset_names.proofs.ListLemmas.{lists_pushed}
use Rattle.asset_lock_store.specs.declared.lock.Lock.{Lock}
use Rattle.asset_lock_store.specs.LockRules as Rules
use Rattle.asset_locks.specs.LockTable as Locks
use Rattle.asset_locks.specs.Blocking as Blocking
use Rattle.asset_locks.specs.Blocking.{request_in}
use Rattle.asset_locks.proofs.HandLaws.{handed_name, handed_pending}
use Rattle.asset_trans.specs.TransRows.{status_in}
use Rattle.asset_ends.specs.Standing.{Standing, values_of}
use Rattle.asset_entries.specs.Recorded.{after}
use Rattle.asset_core.specs.Pending.{Pending, asker_after, request_after, request_of, pending_of, new_asker, waiter_of, waiting_for}
use Rattle.asset_steps.specs.Ready.{locks_after, locks_waiting, released}
use Rattle.asset_core.specs.Tables.{asker_of, pending_in}
use Rattle.asset_ends.proofs.HistoryLemmas.{live_quiet, begin_quiet, complete_quiet, read_ends, write_ends, add_ends}
use Rattle.asset_ends.proofs.PermitLaws.{permit_ends}
use Rattle.asset_ends.proofs.OpenerLaws.{open_ends}
use Rattle.asset_ends.proofs.ShowsLemmas.{live_shown}
use Rattle.asset_ends.specs.Shows.{Shows}

-- the pending requests of a table of locks
abbrev pub pending_requests : Locks.LockTable → List Pending
pending_requests table = map asker_of table

-- the names of the pending_requests
abbrev pub named : List Pending → List ℕ
named ps = map (λ (asker : Pending). asker.name) ps

pub askers_named : (table : Locks.LockTable) → named (pending_requests table) ≡ Locks.names_in table
unfolding Locks.names_in asker_of
askers_named table = go table where
  go : (everyone : List Locks.Enrolled) → named (map asker_of everyone) ≡ map (λ (who : Locks.Enrolled). who.name) everyone
  go [] = refl
  go (who ∷ everyone) = ap (λ ns. who.name ∷ ns) (go everyone)

-- the request of one of them
pub pending_found : (table : Locks.LockTable) (t : ℕ) → request_in table t ≡ pending_of t (pending_requests table)
unfolding request_in Blocking.request_of Locks.enrolled_in pending_of request_of asker_of
pending_found table t = go table where
  go : (everyone : List Locks.Enrolled) → Blocking.request_of (find (λ (who : Locks.Enrolled). eqb who.name t) everyone) ≡ request_of (find (λ (asker : Pending). eqb asker.name t) (map asker_of everyone))
  go [] = refl
  go (who ∷ everyone) = by (eqb who.name t) (go everyone) where
    by : (here : Bool) → Blocking.request_of (find (λ (other : Locks.Enrolled). eqb other.name t) everyone) ≡ request_of (find (λ (asker : Pending). eqb asker.name t) (map asker_of everyone))
        → Blocking.request_of (cond here (Some who) (find (λ (other : Locks.Enrolled). eqb other.name t) everyone)) ≡ request_of (cond here (Some (asker_of who)) (find (λ (asker : Pending). eqb asker.name t) (map asker_of everyone)))
    by true rest = refl
    by false rest = rest

-- all pending_requests stay where each of their names passes
all_stay : (p : ℕ → Bool) (ps : List Pending) → ((n : ℕ) → lists (named ps) n ≡ true → p n ≡ true) → filter (λ (asker : Pending). p asker.name) ps ≡ ps
unfolding lists
all_stay p [] passes = refl
all_stay p (asker ∷ ps) passes =
    rw (passes asker.name (or_left _ _ (eq-eqb asker.name asker.name refl)), all_stay p ps (λ n listed. passes n (or_right _ _ listed)))

-- each enrolled name is live
lists_live : (p : ℕ → Bool) (names : List ℕ) (n : ℕ) → lists (filter p names) n ≡ true → p n ≡ true
unfolding lists
lists_live p [] n h = absurd (false≢true h)
lists_live p (m ∷ names) n h = go (p m) refl (eqb m n) refl h (lists_live p names n) where
  go : (kept : Bool) → p m ≡ kept → (here : Bool) → eqb m n ≡ here → lists (cond kept (m ∷ filter p names) (filter p names)) n ≡ true → (lists (filter p names) n ≡ true → p n ≡ true) → p n ≡ true
  go true k true e h later = subst (λ k. p k ≡ true) (eqb-true m n e) k
  go true k false e h later = later (rw e at h)
  go false k here e h later = later h

asker_live : (opening : Opening) (steps : List Step) (tables : Standing) → Shows opening steps (values_of tables) → (n : ℕ) → lists (named (pending_in tables.locks)) n ≡ true → live steps n ≡ true
unfolding pending_in
asker_live opening steps tables stand n listed =
    lists_live (live steps) (reverse (initiated steps)) n (ap (λ names. lists names n) (sym stand.enrolled ∙ sym (askers_named tables.locks)) ∙ listed)

-- a change of pending_requests that keeps their names
named_changed : (change : Pending → Pending) (ps : List Pending) → ((asker : Pending) → (change asker).name ≡ asker.name) → named (map change ps) ≡ named ps
named_changed change [] keeps = refl
named_changed change (asker ∷ ps) keeps = rw (keeps asker, named_changed change ps keeps)

asker_keeps : (step : Step) (outcome : Outcome) (asker : Pending) → (asker_after step outcome asker).name ≡ asker.name
unfolding asker_after
asker_keeps (Read t x) outcome asker = go (eqb asker.name t.0) where
  go : (own : Bool) → (cond own (record asker { request = request_after (Read t x) x Op'.Read outcome asker.request }) asker).name ≡ asker.name
  go true = refl
  go false = refl
asker_keeps (Write t x v) outcome asker = go (eqb asker.name t.0) where
  go : (own : Bool) → (cond own (record asker { request = request_after (Write t x v) x Op'.Write outcome asker.request }) asker).name ≡ asker.name
  go true = refl
  go false = refl
asker_keeps (Add t x v) outcome asker = go (eqb asker.name t.0) where
  go : (own : Bool) → (cond own (record asker { request = request_after (Add t x v) x Op'.Add outcome asker.request }) asker).name ≡ asker.name
  go true = refl
  go false = refl
asker_keeps (Initiate t parent) outcome asker = refl
asker_keeps (Begin t) outcome asker = refl
asker_keeps (Complete t) outcome asker = refl
asker_keeps (Permit giver taker obs ops) outcome asker = refl
asker_keeps (PermitAny giver obs ops) outcome asker = refl
asker_keeps (Delegate giver taker obs) outcome asker = refl
asker_keeps (Depend kind a b) outcome asker = refl
asker_keeps (Commit t) outcome asker = refl
asker_keeps (Abort t) outcome asker = refl
asker_keeps (WaitFor t) outcome asker = refl

-- if nobody has ended, the pending requests are those that the step makes
nobody_ended : (later steps : List Step) (step : Step) (outcome : Outcome) (ps : List Pending)
    → ((n : ℕ) → lists (named ps) n ≡ true → live later n ≡ true) → new_asker step outcome ≡ []
    → filter (λ (asker : Pending). live later asker.name) (map (asker_after step outcome) ps ++ new_asker step outcome) ≡ map (asker_after step outcome) ps
nobody_ended later steps step outcome ps alive none =
    rw (none, append-nil (map (asker_after step outcome) ps))
    (all_stay (live later) (map (asker_after step outcome) ps) (λ n listed. alive n (ap (λ names. lists names n) (sym (named_changed (asker_after step outcome) ps (asker_keeps step outcome))) ∙ listed)))

-- pending_requests that do not change
same_askers : (change : Pending → Pending) (ps : List Pending) → ((asker : Pending) → change asker ≡ asker) → map change ps ≡ ps
same_askers change [] same = refl
same_askers change (asker ∷ ps) same = rw (same asker, same_askers change ps same)

-- a refusal, and a wait for a transaction, leave each pending request
asker_unchanged : (step : Step) (reply : Reply) (asker : Pending) → takes_effect step reply ≡ false → asker_after step (Answer reply) asker ≡ asker
unfolding asker_after request_after
asker_unchanged (Read t x) reply asker none = rw none (go (eqb asker.name t.0)) where
  go : (own : Bool) → cond own asker asker ≡ asker
  go true = refl
  go false = refl
asker_unchanged (Write t x v) reply asker none = rw none (go (eqb asker.name t.0)) where
  go : (own : Bool) → cond own asker asker ≡ asker
  go true = refl
  go false = refl
asker_unchanged (Add t x v) reply asker none = rw none (go (eqb asker.name t.0)) where
  go : (own : Bool) → cond own asker asker ≡ asker
  go true = refl
  go false = refl
asker_unchanged (Initiate t parent) reply asker none = refl
asker_unchanged (Begin t) reply asker none = refl
asker_unchanged (Complete t) reply asker none = refl
asker_unchanged (Permit giver taker obs ops) reply asker none = refl
asker_unchanged (PermitAny giver obs ops) reply asker none = refl
asker_unchanged (Delegate giver taker obs) reply asker none = refl
asker_unchanged (Depend kind a b) reply asker none = refl
asker_unchanged (Commit t) reply asker none = refl
asker_unchanged (Abort t) reply asker none = refl
asker_unchanged (WaitFor t) reply asker none = refl

new_unchanged : (step : Step) (reply : Reply) → takes_effect step reply ≡ false → new_asker step (Answer reply) ≡ []
unfolding new_asker outcome_takes_effect
new_unchanged (Initiate t parent) reply none = rw none refl
new_unchanged (Begin t) reply none = refl
new_unchanged (Read t x) reply none = refl
new_unchanged (Write t x v) reply none = refl
new_unchanged (Add t x v) reply none = refl
new_unchanged (Complete t) reply none = refl
new_unchanged (Permit giver taker obs ops) reply none = refl
new_unchanged (PermitAny giver obs ops) reply none = refl
new_unchanged (Delegate giver taker obs) reply none = refl
new_unchanged (Depend kind a b) reply none = refl
new_unchanged (Commit t) reply none = refl
new_unchanged (Abort t) reply none = refl
new_unchanged (WaitFor t) reply none = refl

-- the pending requests after a step that is recorded and without effect
pub askers_refused : (opening : Opening) (steps : List Step) (tables : Standing) (step : Step) (reply : Reply) → Shows opening steps (values_of tables) → takes_effect step reply ≡ false
    → filter (λ (asker : Pending). live steps asker.name) (map (asker_after step (Answer reply)) (pending_in tables.locks) ++ new_asker step (Answer reply)) ≡ pending_in tables.locks
askers_refused opening steps tables step reply stand none =
    nobody_ended steps steps step (Answer reply) (pending_in tables.locks) (asker_live opening steps tables stand) (new_unchanged step reply none)
    ∙ same_askers (asker_after step (Answer reply)) (pending_in tables.locks) (λ asker. asker_unchanged step reply asker none)

-- the pending requests after a change of the rows
askers_changed : (change : Locks.Enrolled → Locks.Enrolled) (after : Pending → Pending) (everyone : List Locks.Enrolled)
    → ((who : Locks.Enrolled) → asker_of (change who) ≡ after (asker_of who)) → map asker_of (map change everyone) ≡ map after (map asker_of everyone)
askers_changed change after [] same = refl
askers_changed change after (who ∷ everyone) same = rw (same who, askers_changed change after everyone same)

-- the pending requests that a waiting request leaves, and those that a grant leaves
waiting_is : (t : ℕ) (x : Ob) (op : Op) (who : Locks.Enrolled) → asker_of (Locks.waiting_row t x op who)
    ≡ cond (eqb (asker_of who).name t) (record (asker_of who) { request = Some (x, op) }) (asker_of who)
unfolding asker_of Locks.waiting_row
waiting_is t x op who = go (eqb who.name t) where
  go : (own : Bool) → asker_of (cond own (record who { pending = Some (x, op) }) who) ≡ cond own (record (asker_of who) { request = Some (x, op) }) (asker_of who)
  go true = refl
  go false = refl

granted_is : (t : ℕ) (x : Ob) (op : Op) (ops : OpSet) (who : Locks.Enrolled) → asker_of (Locks.granted_row t x op ops who)
    ≡ cond (eqb (asker_of who).name t) (record (asker_of who) { request = None }) (asker_of who)
unfolding asker_of Locks.granted_row
granted_is t x op ops who = go (eqb who.name t) where
  go : (own : Bool) → asker_of (cond own (record who { pending = None; locks = Rules.granted_own x op who.locks }) (record who { locks = map (Rules.suspended x.0 ops) who.locks }))
      ≡ cond own (record (asker_of who) { request = None }) (asker_of who)
  go true = refl
  go false = refl

waiting_askers : (step : Step) (tables : Standing) → map (asker_after step Wait) (pending_in tables.locks) ≡ pending_requests (locks_waiting step tables)
unfolding pending_in locks_waiting Locks.wait_in asker_after request_after
waiting_askers (Read t x) tables = sym (askers_changed (Locks.waiting_row t.0 x Op'.Read) (asker_after (Read t x) Wait) tables.locks (waiting_is t.0 x Op'.Read))
waiting_askers (Write t x v) tables = sym (askers_changed (Locks.waiting_row t.0 x Op'.Write) (asker_after (Write t x v) Wait) tables.locks (waiting_is t.0 x Op'.Write))
waiting_askers (Add t x v) tables = sym (askers_changed (Locks.waiting_row t.0 x Op'.Add) (asker_after (Add t x v) Wait) tables.locks (waiting_is t.0 x Op'.Add))
waiting_askers (Initiate t parent) tables = same_askers _ _ (λ asker. refl)
waiting_askers (Begin t) tables = same_askers _ _ (λ asker. refl)
waiting_askers (Complete t) tables = same_askers _ _ (λ asker. refl)
waiting_askers (Permit giver taker obs ops) tables = same_askers _ _ (λ asker. refl)
waiting_askers (PermitAny giver obs ops) tables = same_askers _ _ (λ asker. refl)
waiting_askers (Delegate giver taker obs) tables = same_askers _ _ (λ asker. refl)
waiting_askers (Depend kind a b) tables = same_askers _ _ (λ asker. refl)
waiting_askers (Commit t) tables = same_askers _ _ (λ asker. refl)
waiting_askers (Abort t) tables = same_askers _ _ (λ asker. refl)
waiting_askers (WaitFor t) tables = same_askers _ _ (λ asker. refl)

-- the pending requests after a request that waits
pub askers_waiting : (opening : Opening) (steps : List Step) (tables : Standing) (step : Step) → Shows opening steps (values_of tables)
    → filter (λ (asker : Pending). live steps asker.name) (map (asker_after step Wait) (pending_in tables.locks) ++ new_asker step Wait) ≡ pending_requests (locks_waiting step tables)
unfolding new_asker outcome_takes_effect
askers_waiting opening steps tables step stand =
    nobody_ended steps steps step Wait (pending_in tables.locks) (asker_live opening steps tables stand) (none step) ∙ go step where
      none : (s : Step) → new_asker s Wait ≡ []
      none (Initiate t parent) = refl
      none (Begin t) = refl
      none (Read t x) = refl
      none (Write t x v) = refl
      none (Add t x v) = refl
      none (Complete t) = refl
      none (Permit giver taker obs ops) = refl
      none (PermitAny giver obs ops) = refl
      none (Delegate giver taker obs) = refl
      none (Depend kind a b) = refl
      none (Commit t) = refl
      none (Abort t) = refl
      none (WaitFor t) = refl

      go : (s : Step) → map (asker_after s Wait) (pending_in tables.locks) ≡ pending_requests (locks_waiting s tables)
      go s = waiting_askers s tables

-- what a grant leaves pending for its transaction
granted_asker : (step : Step) (t : ℕ) (x : Ob) (op : Op) (reply : Reply) (asker : Pending) → takes_effect step reply ≡ true
    → cond (eqb asker.name t) (record asker { request = request_after step x op (Answer reply) asker.request }) asker ≡ cond (eqb asker.name t) (record asker { request = None }) asker
unfolding request_after
granted_asker step t x op reply asker carried = rw carried refl

-- the pending requests without those of some
askers_without : (test : ℕ → Bool) (everyone : List Locks.Enrolled) → map asker_of (filter (λ (who : Locks.Enrolled). not (test who.name)) everyone) ≡ filter (λ (asker : Pending). not (test asker.name)) (map asker_of everyone)
unfolding asker_of
askers_without test [] = refl
askers_without test (who ∷ everyone) = go (test who.name) (askers_without test everyone) where
  go : (gone : Bool) → map asker_of (filter (λ (h : Locks.Enrolled). not (test h.name)) everyone) ≡ filter (λ (asker : Pending). not (test asker.name)) (map asker_of everyone)
      → map asker_of (cond (not gone) (who ∷ filter (λ (h : Locks.Enrolled). not (test h.name)) everyone) (filter (λ (h : Locks.Enrolled). not (test h.name)) everyone))
      ≡ cond (not gone) (asker_of who ∷ filter (λ (asker : Pending). not (test asker.name)) (map asker_of everyone)) (filter (λ (asker : Pending). not (test asker.name)) (map asker_of everyone))
  go true ih = ih
  go false ih = ap (λ ps. asker_of who ∷ ps) ih

-- filters of pending requests by tests that agree on their names
askers_alike : (p q : ℕ → Bool) (ps : List Pending) → ((n : ℕ) → lists (named ps) n ≡ true → p n ≡ q n) → filter (λ (asker : Pending). p asker.name) ps ≡ filter (λ (asker : Pending). q asker.name) ps
unfolding lists
askers_alike p q [] same = refl
askers_alike p q (asker ∷ ps) same =
    rw (same asker.name (or_left _ _ (eq-eqb asker.name asker.name refl)), askers_alike p q ps (λ n listed. same n (or_right _ _ listed)))

-- after an end the pending requests of those whom it ends have gone
ended_askers : (opening : Opening) (steps : List Step) (step : Step) (tables : Standing) (t : ℕ) (test whom : ℕ → Bool) → Shows opening steps (values_of tables) → ((n : ℕ) → live (step ∷ steps) n ≡ (not (test n) && live steps n))
    → (live steps t ≡ true → (n : ℕ) → test n ≡ whom n) → ((n : ℕ) → live steps t ≡ false → test n ≡ false)
    → filter (λ (asker : Pending). live (step ∷ steps) asker.name) (pending_in tables.locks) ≡ pending_requests (released tables t whom)
unfolding pending_in released Locks.release_in
ended_askers opening steps step tables t test whom stand ends those nobody = go (is_live_status (status_in tables.trans t)) refl where
  ps : List Pending
  ps = pending_in tables.locks

  go : (alive : Bool) → is_live_status (status_in tables.trans t) ≡ alive
      → filter (λ (asker : Pending). live (step ∷ steps) asker.name) ps ≡ pending_requests (cond alive (Locks.release_in whom tables.locks) tables.locks)
  go true e =
      let alive = sym (live_shown opening steps _ _ _ _ _ t stand) ∙ e in
      askers_alike (live (step ∷ steps)) (λ n. not (whom n)) ps (λ n listed. ends n ∙ rw (asker_live opening steps tables stand n listed, those alive n) (grind arith))
      ∙ sym (askers_without whom tables.locks)
  go false e =
      let dead = sym (live_shown opening steps _ _ _ _ _ t stand) ∙ e in
      all_stay (live (step ∷ steps)) ps (λ n listed. ends n ∙ rw (nobody n dead, asker_live opening steps tables stand n listed) refl)

-- a new transaction has the last pending request, and it is empty
initiate_askers : (opening : Opening) (steps : List Step) (tables : Standing) (t : Txn) (parent : Option Txn) (reply : Reply) → Shows opening steps (values_of tables) → takes_effect (Initiate t parent) reply ≡ true → lists (initiated steps) t.0 ≡ false
    → filter (λ (asker : Pending). live (Initiate t parent ∷ steps) asker.name) (map (asker_after (Initiate t parent) (Answer reply)) (pending_in tables.locks) ++ new_asker (Initiate t parent) (Answer reply)) ≡ pending_requests (Locks.enrol_in t.0 tables.locks)
unfolding new_asker outcome_takes_effect asker_after pending_in Locks.enrol_in asker_of lists
initiate_askers opening steps tables t parent reply stand carried new =
    let ps = pending_in tables.locks in
    let last : Pending = record { name = t.0; request = None } in
    let all : List Pending = ps ++ last ∷ [] in
    rw (carried, same_askers (λ asker. asker) ps (λ asker. refl))
    (all_stay (live (Initiate t parent ∷ steps)) all (λ n listed. live_initiate t parent steps n new ∙ known n (or_cases _ _ (sym (pushed ps last n) ∙ listed)))
    ∙ sym (map-append asker_of tables.locks _)) where
      pushed : (ps : List Pending) (last : Pending) (n : ℕ) → lists (named (ps ++ last ∷ [])) n ≡ (lists (named ps) n || eqb last.name n)
      pushed ps last n = ap (λ names. lists names n) (map-append (λ (asker : Pending). asker.name) ps (last ∷ [])) ∙ lists_pushed (named ps) last.name n

      known : (n : ℕ) → (lists (named (pending_in tables.locks)) n ≡ true) ⊎ (eqb t.0 n ≡ true) → (eqb t.0 n || live steps n) ≡ true
      known n (inl before) = or_right (eqb t.0 n) _ (asker_live opening steps tables stand n before)
      known n (inr here) = or_left _ (live steps n) here

-- a grant leaves nothing pending for its transaction
granted_askers : (step : Step) (t : ℕ) (x : Ob) (op : Op) (reply : Reply) (tables : Standing) → takes_effect step reply ≡ true
    → ((asker : Pending) → asker_after step (Answer reply) asker ≡ cond (eqb asker.name t) (record asker { request = request_after step x op (Answer reply) asker.request }) asker)
    → map (asker_after step (Answer reply)) (pending_in tables.locks) ≡ pending_requests (Locks.grant_in t x op tables.locks)
unfolding pending_in Locks.grant_in
granted_askers step t x op reply tables carried asked =
    let ops = Rules.ops_with op (Locks.lock_in tables.locks t x.0) in
    sym (askers_changed (Locks.granted_row t x op ops) (asker_after step (Answer reply)) tables.locks
    (λ who. granted_is t x op ops who ∙ sym (asked (asker_of who) ∙ granted_asker step t x op reply (asker_of who) carried)))

-- a hand-over leaves each pending request
askers_handed : (giver taker : ℕ) (set : ObSet) (table : Locks.LockTable) → pending_requests (Locks.hand_over_in giver taker set table) ≡ pending_requests table
unfolding Locks.hand_over_in asker_of
askers_handed giver taker set table = go (eqb giver taker) where
  given : List Lock
  given = filter (Rules.moved set) (Locks.locks_of table giver)

  keeps : (who : Locks.Enrolled) → asker_of (Locks.handed_row giver taker set given who) ≡ asker_of who
  keeps who = λ i. record { name = handed_name giver taker set given who i; request = handed_pending giver taker set given who i }

  go : (same : Bool) → pending_requests (cond same table (map (Locks.handed_row giver taker set given) table)) ≡ pending_requests table
  go true = refl
  go false = askers_changed (Locks.handed_row giver taker set given) (λ asker. asker) table keeps ∙ same_askers (λ asker. asker) (map asker_of table) (λ asker. refl)

-- the pending requests after a step that took effect
pub askers_carried : (opening : Opening) (steps : List Step) (tables : Standing) (step : Step) (reply : Reply) → Shows opening steps (values_of tables) → takes_effect step reply ≡ true
    → ((t : Txn) (parent : Option Txn) → step ≡ Initiate t parent → lists (initiated steps) t.0 ≡ false)
    → filter (λ (asker : Pending). live (step ∷ steps) asker.name) (map (asker_after step (Answer reply)) (pending_in tables.locks) ++ new_asker step (Answer reply)) ≡ pending_requests (locks_after step tables)
unfolding locks_after pending_in initiated initiated_by takes_effect new_asker asker_after
askers_carried opening steps tables (Initiate t parent) reply stand carried new = initiate_askers opening steps tables t parent reply stand carried (new t parent refl)
askers_carried opening steps tables (Begin t) reply stand carried new =
    nobody_ended (Begin t ∷ steps) steps (Begin t) (Answer reply) (pending_in tables.locks) (λ n listed. live_quiet (Begin t ∷ steps) steps refl (begin_quiet t steps).ends n ∙ asker_live opening steps tables stand n listed) refl
    ∙ same_askers _ _ (λ asker. refl)
askers_carried opening steps tables (Complete t) reply stand carried new =
    nobody_ended (Complete t ∷ steps) steps (Complete t) (Answer reply) (pending_in tables.locks) (λ n listed. live_quiet (Complete t ∷ steps) steps refl (complete_quiet t steps).ends n ∙ asker_live opening steps tables stand n listed) refl
    ∙ same_askers _ _ (λ asker. refl)
askers_carried opening steps tables (Read t x) reply stand carried new =
    nobody_ended (Read t x ∷ steps) steps (Read t x) (Answer reply) (pending_in tables.locks) (λ n listed. live_quiet (Read t x ∷ steps) steps refl (read_ends t x steps) n ∙ asker_live opening steps tables stand n listed) refl
    ∙ granted_askers (Read t x) t.0 x Op'.Read reply tables carried (λ asker. refl)
askers_carried opening steps tables (Write t x v) reply stand carried new =
    nobody_ended (Write t x v ∷ steps) steps (Write t x v) (Answer reply) (pending_in tables.locks) (λ n listed. live_quiet (Write t x v ∷ steps) steps refl (write_ends t x v steps) n ∙ asker_live opening steps tables stand n listed) refl
    ∙ granted_askers (Write t x v) t.0 x Op'.Write reply tables carried (λ asker. refl)
askers_carried opening steps tables (Add t x v) reply stand carried new =
    nobody_ended (Add t x v ∷ steps) steps (Add t x v) (Answer reply) (pending_in tables.locks) (λ n listed. live_quiet (Add t x v ∷ steps) steps refl (add_ends t x v steps) n ∙ asker_live opening steps tables stand n listed) refl
    ∙ granted_askers (Add t x v) t.0 x Op'.Add reply tables carried (λ asker. refl)
askers_carried opening steps tables (Permit giver taker obs ops) reply stand carried new =
    nobody_ended (Permit giver taker obs ops ∷ steps) steps (Permit giver taker obs ops) (Answer reply) (pending_in tables.locks) (λ n listed. live_quiet (Permit giver taker obs ops ∷ steps) steps refl (permit_ends giver taker obs ops steps) n ∙ asker_live opening steps tables stand n listed) refl
    ∙ same_askers _ _ (λ asker. refl)
askers_carried opening steps tables (PermitAny giver obs ops) reply stand carried new =
    nobody_ended (PermitAny giver obs ops ∷ steps) steps (PermitAny giver obs ops) (Answer reply) (pending_in tables.locks) (λ n listed. live_quiet (PermitAny giver obs ops ∷ steps) steps refl (open_ends giver obs ops steps) n ∙ asker_live opening steps tables stand n listed) refl
    ∙ same_askers _ _ (λ asker. refl)
askers_carried opening steps tables (Delegate giver taker obs) reply stand carried new =
    nobody_ended (Delegate giver taker obs ∷ steps) steps (Delegate giver taker obs) (Answer reply) (pending_in tables.locks) (λ n listed. live_delegated giver taker obs steps n ∙ asker_live opening steps tables stand n listed) refl
    ∙ same_askers _ _ (λ asker. refl)
    ∙ sym (askers_handed giver.0 taker.0 obs tables.locks)
askers_carried opening steps tables (Depend kind a b) reply stand carried new =
    nobody_ended (Depend kind a b ∷ steps) steps (Depend kind a b) (Answer reply) (pending_in tables.locks) (λ n listed. live_quiet (Depend kind a b ∷ steps) steps refl (depend_ends kind a b steps) n ∙ asker_live opening steps tables stand n listed) refl
    ∙ same_askers _ _ (λ asker. refl)
askers_carried opening steps tables (Commit t) reply stand carried new =
    ap (λ ps. filter (λ (asker : Pending). live (Commit t ∷ steps) asker.name) ps) (append-nil _ ∙ same_askers _ _ (λ asker. refl)) ∙ ended_askers opening steps (Commit t) tables t.0 (commits steps t.0) (class_in tables.deps t.0) stand (live_commit t steps) (λ alive n. sym (commits_shown steps tables.deps stand.dependencies_stand t.0 alive n)) (λ n. commits_nobody steps t.0 n)
askers_carried opening steps tables (Abort t) reply stand carried new =
    ap (λ ps. filter (λ (asker : Pending). live (Abort t ∷ steps) asker.name) ps) (append-nil _ ∙ same_askers _ _ (λ asker. refl)) ∙ ended_askers opening steps (Abort t) tables t.0 (aborts steps t.0) (doomed_in tables.deps t.0) stand (live_abort t steps) (λ alive n. sym (aborts_shown steps tables.deps stand.dependencies_stand t.0 alive n)) (λ n. aborts_nobody steps t.0 n)
askers_carried opening steps tables (WaitFor t) reply stand carried new = absurd (false≢true carried)

-- who waits for an object, by the table and by the pending_requests
pub waiters_as : (x : ℕ) (kept : Locks.LockTable) → Locks.waiters_in kept x ≡ waiting_for x (pending_in kept)
unfolding Locks.waiters_in waiting_for pending_in asker_of Locks.waiting_at waiter_of
waiters_as x kept = go kept where
  one : (t : ℕ) (asker : Locks.PendingRequest) → Locks.waiting_at x t asker ≡ waiter_of x t asker
  one t None = refl
  one t (Some request) = refl

  go : (everyone : List Locks.Enrolled) → flat_map (λ (who : Locks.Enrolled). Locks.waiting_at x who.name who.pending) everyone ≡ flat_map (λ (asker : Pending). waiter_of x asker.name asker.request) (map asker_of everyone)
  go [] = refl
  go (who ∷ everyone) = rw (one who.name who.pending, go everyone)

-- a wait of a step that is no operation leaves the locks
pub waits_still : (step : Step) (tables : Standing) → is_operation step ≡ false → locks_waiting step tables ≡ tables.locks
unfolding is_operation locks_waiting
waits_still (Initiate t parent) tables none = refl
waits_still (Begin t) tables none = refl
waits_still (Read t x) tables none = absurd (false≢true (sym none))
waits_still (Write t x v) tables none = absurd (false≢true (sym none))
waits_still (Add t x v) tables none = absurd (false≢true (sym none))
waits_still (Complete t) tables none = refl
waits_still (Permit giver taker obs ops) tables none = refl
waits_still (PermitAny giver obs ops) tables none = refl
waits_still (Delegate giver taker obs) tables none = refl
waits_still (Depend kind a b) tables none = refl
waits_still (Commit t) tables none = refl
waits_still (Abort t) tables none = refl
waits_still (WaitFor t) tables none = refl
