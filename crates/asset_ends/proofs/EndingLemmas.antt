-- Those who are marked end one after another, and in the end all of them have; whether a class may commit.
use Rattle.std.proofs.Common.{◌≡◌, ℕ, ◌+◌, take, Bool, true, false, cond, not, eqb, ◌&&◌, ◌||◌, List, [], ◌∷◌, ◌++◌, reverse, length, refl, sym, ◌∙◌, ap, subst}
use Rattle.std.specs.Prelude.{Option, Some, None, is_some, slice_get}
use Rattle.std.specs.List.{list_all}
use Rattle.std.proofs.lemmas.Option.{slice_get_within, get_or_from_slice_get}
use Rattle.std.proofs.lemmas.List.{length-map}
use Rattle.std.proofs.lemmas.List.Folds.{list_all_at, list_all_more}
use Rattle.std.proofs.lemmas.Bool.{or_left, or_right, and_from, eqb-true, eq-eqb, ne_eqb, false≢true}
use Rattle.asset_names.specs.declared.names.Txn.{Txn}
use Rattle.asset_names.specs.declared.statuses.End.{End}
use Rattle.asset_names.specs.declared.statuses.Status.{Status}
use Rattle.asset_names.specs.declared.statuses.End.TheVariants as End'
use Rattle.asset_names.specs.declared.steps.Step.{Step}
use Rattle.asset_names.specs.declared.steps.Step.TheVariants.{Commit, Abort}
use Rattle.asset_names.specs.Arrows.{lists}
use Rattle.asset_names.specs.Steps.{Opening, initiated}
use Rattle.asset_names.specs.Endings.{status, same_class, is_live_status}
use Rattle.asset_names.specs.Answers.{is_completed, class_completed, may_commit}
use Rattle.asset_names.proofs.Common.{both_follow, eqb-flip}
use Rattle.asset_names.proofs.EndLemmas.{commits, aborts}
use Rattle.asset_names.proofs.ListLemmas.{all_listed, listed_all, lists_pushed}
use Rattle.asset_objects.specs.Cells.{cells, ended, change_each}
use Rattle.asset_objects.specs.Placed.{objects_in}
use Rattle.asset_locks.specs.LockTable as Locks
use Rattle.asset_permits.specs.Valid.{permits_in}
use Rattle.asset_seats.specs.Seated.{Seated, seat}
use Rattle.asset_deps.specs.Dependencies.{Dependency, class_in, doomed_in, outside_source_in}
use Rattle.asset_deps.specs.Valid.{LinkTable, dependencies_in, marked_in, marked_of, name_at, IsTied}
use Rattle.asset_deps.proofs.SeatLemmas.{marked_seat}
use Rattle.asset_trans.specs.TransRows.{NamedTransRow, names_of, row_in, status_in, seat_in, set_in, ended_as}
use Rattle.asset_ends.specs.Shows.{Shows, table_values}
use Rattle.asset_ends.specs.Standing.{Standing, values_of, class_may_commit_in, may_commit_in, AreEnrolled, LiveAreSeated}
use Rattle.asset_ends.specs.Tied.{PartsAreTied, PartsAreValid}
use Rattle.asset_ends.specs.declared.parts.Parts.{Parts}
use Rattle.asset_ends.specs.Ended.{parts, locks_of, marked_by, unless_gone, AreEnded}
use Rattle.asset_ends.proofs.CellLemmas.{is_name}
use Rattle.asset_ends.proofs.TransLaws.{status_set, seat_set, row_named}
use Rattle.asset_ends.proofs.LockLaws.{names_released}
use Rattle.asset_ends.proofs.HistoryLemmas.{reverse-cons}
use Rattle.asset_ends.proofs.DependLaws.{class_shown, commits_shown, aborts_shown, outside_shown}
use Rattle.asset_ends.proofs.ShowsLemmas.{row_known, commit_shows, abort_shows, live_shown}
use Rattle.asset_ends.proofs.EnrolledLemmas.{lists_filter, live_known}
use Rattle.asset_ends.proofs.TwiceLemmas.{either, nobody, ended_twice, ended_none, ended_as_test}

-- ---- one after another

-- those of the first list who are not in the second: the marked who have ended
unfoldable pub gone : List ℕ → List ℕ → ℕ → Bool
gone start now n = lists start n && not (lists now n)

none_gone : (start : List ℕ) (n : ℕ) → nobody n ≡ gone start start n
unfolding gone nobody
none_gone start n = go (lists start n) where
  go : (listed : Bool) → false ≡ (listed && not listed)
  go true = refl
  go false = refl

all_gone : (start : List ℕ) (n : ℕ) → gone start [] n ≡ lists start n
unfolding gone lists
all_gone start n = go (lists start n) where
  go : (listed : Bool) → (listed && true) ≡ listed
  go true = refl
  go false = refl

-- the last of those who are marked goes too
one_gone : (start now next : List ℕ) (u : ℕ) → now ≡ next ++ u ∷ [] → lists next u ≡ false → ((n : ℕ) → lists now n ≡ true → lists start n ≡ true) → (n : ℕ) → either (gone start now) (is_name u) n ≡ gone start next n
unfolding either gone
one_gone start now next u is new within n = go (eqb u n) refl where
  now_lists : lists now n ≡ (lists next n || eqb u n)
  now_lists = ap (λ names. lists names n) is ∙ lists_pushed next u n

  elsewhere : (s x : Bool) → ((s && not (x || false)) || false) ≡ (s && not x)
  elsewhere true true = refl
  elsewhere true false = refl
  elsewhere false x = refl

  here : (s x : Bool) → s ≡ true → x ≡ false → ((s && not (x || true)) || true) ≡ (s && not x)
  here s x p q = rw (p, q) refl

  go : (same : Bool) → eqb u n ≡ same → ((lists start n && not (lists now n)) || eqb n u) ≡ (lists start n && not (lists next n))
  go false e = rw (now_lists, eqb-flip n u, e) (elsewhere (lists start n) (lists next n))
  go true e = rw (now_lists, eqb-flip n u, e) (here (lists start n) (lists next n)
      (within n (now_lists ∙ or_right (lists next n) _ e)) (ap (lists next) (sym (eqb-true u n e)) ∙ new))

-- where the loop stands: those whose mark is taken have ended, and the others are live
pub record AreEnding (how : End) (start now : Parts) : Type 0 where
  pub ended : AreEnded (gone (marked_by start) (marked_by now)) how start now
  pub within : (n : ℕ) → lists (marked_by now) n ≡ true → lists (marked_by start) n ≡ true
  pub live : (n : ℕ) → lists (marked_by now) n ≡ true → is_live_status (status_in now.trans n) ≡ true
  pub tied : PartsAreTied now

pub none_ending : (how : End) (start : Parts) → change_each (ended how nobody) (cells (objects_in start.objects)) ≡ cells (objects_in start.objects) → ((n : ℕ) → lists (marked_by start) n ≡ true → is_live_status (status_in start.trans n) ≡ true) → PartsAreTied start → AreEnding how start start
none_ending how start same alive tied = record {
  ended = ended_as_test nobody (gone (marked_by start) (marked_by start)) how start start (none_gone (marked_by start)) (ended_none how start same);
  within = λ n listed. listed;
  live = alive;
  tied = tied;
}

-- marks are of no account
still_ended : (test : ℕ → Bool) (how : End) (before now : Parts) (after : LinkTable) → dependencies_in after ≡ dependencies_in now.deps → AreEnded test how before now
    → AreEnded test how before (parts now.seats now.trans now.objects now.locks now.permits after)
still_ended test how before now after d ended = record {
  rows = ended.rows;
  objects = ended.objects;
  locks = ended.locks;
  permits = ended.permits;
  openers = ended.openers;
  deps = λ k u v. rw d (ended.deps k u v);
  seats = ended.seats;
}

-- of the others the status stays
others_live : (u : ℕ) (how : End) (rows : List NamedTransRow) (n : ℕ) → eqb n u ≡ false → status_in (set_in (is_name u) (ended_as how) rows) n ≡ status_in rows n
others_live u how rows n apart = status_set (is_name u) (ended_as how) rows n ∙ rw apart refl

apart_from : (names : List ℕ) (u n : ℕ) → lists names u ≡ false → lists names n ≡ true → eqb n u ≡ false
apart_from names u n new listed = go (eqb n u) refl where
  go : (same : Bool) → eqb n u ≡ same → same ≡ false
  go false e = refl
  go true e = absurd (false≢true (sym new ∙ ap (lists names) (sym (eqb-true n u e)) ∙ listed))

pub next_ending : (how : End) (start now : Parts) (after : LinkTable) (later : Parts) (u : ℕ) → AreEnding how start now → marked_by now ≡ marked_in now.seats after ++ u ∷ [] → lists (marked_in now.seats after) u ≡ false
    → dependencies_in after ≡ dependencies_in now.deps → AreEnded (is_name u) how (parts now.seats now.trans now.objects now.locks now.permits after) later → marked_by later ≡ marked_in now.seats after → PartsAreTied later
    → AreEnding how start later
next_ending how start now after later u ending is new d one marked tied = record {
  ended = ended_as_test (either (gone (marked_by start) (marked_by now)) (is_name u)) (gone (marked_by start) (marked_by later)) how start later
      (λ n. one_gone (marked_by start) (marked_by now) (marked_in now.seats after) u is new ending.within n ∙ ap (λ marks. gone (marked_by start) marks n) (sym marked))
      (ended_twice (gone (marked_by start) (marked_by now)) (is_name u) how start (parts now.seats now.trans now.objects now.locks now.permits after) later (still_ended _ how start now after d ending.ended) one);
  within = λ n listed. ending.within n (among_now n listed);
  live = λ n listed. rw (one.rows, others_live u how now.trans n (apart_from (marked_in now.seats after) u n new (still_listed n listed))) (ending.live n (among_now n listed));
  tied = tied;
} where
  still_listed : (n : ℕ) → lists (marked_by later) n ≡ true → lists (marked_in now.seats after) n ≡ true
  still_listed n listed = ap (λ marks. lists marks n) (sym marked) ∙ listed

  among_now : (n : ℕ) → lists (marked_by later) n ≡ true → lists (marked_by now) n ≡ true
  among_now n listed = ap (λ marks. lists marks n) is ∙ lists_pushed (marked_in now.seats after) u n ∙ or_left _ _ (still_listed n listed)

pub next_live : (how : End) (start now : Parts) (next : List ℕ) (u : ℕ) → AreEnding how start now → marked_by now ≡ next ++ u ∷ [] → is_live_status (status_in now.trans u) ≡ true
next_live how start now next u ending is = ending.live u (ap (λ marks. lists marks u) is ∙ lists_pushed next u u ∙ or_right (lists next u) _ (eq-eqb u u refl))

-- when none is marked any more, all have ended
pub all_ended : (how : End) (start now : Parts) → AreEnding how start now → marked_by now ≡ [] → AreEnded (lists (marked_by start)) how start now
all_ended how start now ending none =
    ended_as_test (gone (marked_by start) (marked_by now)) (lists (marked_by start)) how start now (λ n. ap (λ marks. gone (marked_by start) marks n) none ∙ all_gone (marked_by start) n) ending.ended

-- ---- what the tables show then

pub commit_stands : (opening : Opening) (steps : List Step) (test : ℕ → Bool) (before later : Parts) (t : Txn) → AreEnded test End'.Committed before later
    → ((n : ℕ) → test n ≡ class_in (dependencies_in before.deps) t.0 n) → is_live_status (status_in before.trans t.0) ≡ true
    → Shows opening steps (table_values before.trans (cells (objects_in before.objects)) (locks_of before) (permits_in before.permits) (dependencies_in before.deps))
    → Shows opening (Commit t ∷ steps) (table_values later.trans (cells (objects_in later.objects)) (locks_of later) (permits_in later.permits) (dependencies_in later.deps))
unfolding ended_as
commit_stands opening steps test before later t ended is alive stand =
    let all = ended_as_test test (commits steps t.0) End'.Committed before later (λ n. is n ∙ commits_shown steps (dependencies_in before.deps) stand.dependencies_stand t.0 (sym (live_shown opening steps _ _ _ _ _ t.0 stand) ∙ alive) n) ended in
    rw (all.rows, all.objects, all.locks) (commit_shows opening steps before.trans (cells (objects_in before.objects)) (locks_of before) (permits_in before.permits) (dependencies_in before.deps) t stand (permits_in later.permits) all.permits all.openers (dependencies_in later.deps) all.deps)

pub abort_stands : (opening : Opening) (steps : List Step) (test : ℕ → Bool) (before later : Parts) (t : Txn) → AreEnded test End'.Aborted before later
    → ((n : ℕ) → test n ≡ doomed_in (dependencies_in before.deps) t.0 n) → is_live_status (status_in before.trans t.0) ≡ true
    → Shows opening steps (table_values before.trans (cells (objects_in before.objects)) (locks_of before) (permits_in before.permits) (dependencies_in before.deps))
    → Shows opening (Abort t ∷ steps) (table_values later.trans (cells (objects_in later.objects)) (locks_of later) (permits_in later.permits) (dependencies_in later.deps))
unfolding ended_as
abort_stands opening steps test before later t ended is alive stand =
    let all = ended_as_test test (aborts steps t.0) End'.Aborted before later (λ n. is n ∙ aborts_shown steps (dependencies_in before.deps) stand.dependencies_stand t.0 (sym (live_shown opening steps _ _ _ _ _ t.0 stand) ∙ alive) n) ended in
    rw (all.rows, all.objects, all.locks) (abort_shows opening steps before.trans (cells (objects_in before.objects)) (locks_of before) (permits_in before.permits) (dependencies_in before.deps) t stand (permits_in later.permits) all.permits all.openers (dependencies_in later.deps) all.deps)

-- ---- who is enrolled then

ended_not_live : (how : End) → is_live_status (ended_as how) ≡ false
unfolding is_live_status ended_as
ended_not_live End'.Committed = refl
ended_not_live End'.Aborted = refl

-- some live transactions have ended
set_ended : (test : ℕ → Bool) (how : End) (rows : List NamedTransRow) → ((n : ℕ) → test n ≡ true → is_live_status (status_in rows n) ≡ true) → (n : ℕ)
    → status_in (set_in test (ended_as how) rows) n ≡ cond (test n) (ended_as how) (status_in rows n)
set_ended test how rows alive n = status_set test (ended_as how) rows n ∙ go (test n) refl where
  go : (ends : Bool) → test n ≡ ends → cond (ends && is_some (row_in rows n)) (ended_as how) (status_in rows n) ≡ cond ends (ended_as how) (status_in rows n)
  go false e = refl
  go true e = rw (row_known rows n (live_known (status_in rows n) (alive n e))) refl

-- and they have left their seats
ended_seated : (test : ℕ → Bool) (how : End) (before later : Parts) → AreEnded test how before later → ((n : ℕ) → test n ≡ true → is_live_status (status_in before.trans n) ≡ true)
    → LiveAreSeated before.trans before.seats → LiveAreSeated later.trans later.seats
unfolding unless_gone
ended_seated test how before later ended alive seated = record {
  seated = λ t live. at_seat t ∙ stays t (test t.0) refl (ap is_live_status (sym (status_is t)) ∙ live);
  live = λ c t sat. ap is_live_status (status_is t) ∙ lives c t (seat before.seats c) refl (sym (ended.seats c) ∙ sat);
} where
  status_is : (t : Txn) → status_in later.trans t.0 ≡ cond (test t.0) (ended_as how) (status_in before.trans t.0)
  status_is t = rw ended.rows (set_ended test how before.trans alive t.0)

  at_seat : (t : Txn) → seat later.seats (seat_in later.trans t.0) ≡ unless_gone test (seat before.seats (seat_in before.trans t.0))
  at_seat t = rw ended.rows (ap (seat later.seats) (seat_set test (ended_as how) before.trans t.0) ∙ ended.seats (seat_in before.trans t.0))

  stays : (t : Txn) (ends : Bool) → test t.0 ≡ ends → is_live_status (cond ends (ended_as how) (status_in before.trans t.0)) ≡ true → unless_gone test (seat before.seats (seat_in before.trans t.0)) ≡ Some t
  stays t true e live = absurd (false≢true (sym (ended_not_live how) ∙ live))
  stays t false e live = ap (unless_gone test) (seated.seated t live) ∙ ap (λ ends. cond ends None (Some t)) e

  lives : (c : ℕ) (t : Txn) (who : Option Txn) → seat before.seats c ≡ who → unless_gone test who ≡ Some t → is_live_status (cond (test t.0) (ended_as how) (status_in before.trans t.0)) ≡ true
  lives c t None at sat = cc sat
  lives c t (Some u) at sat = go (test u.0) refl sat where
    go : (ends : Bool) → test u.0 ≡ ends → cond ends None (Some u) ≡ Some t → is_live_status (cond (test t.0) (ended_as how) (status_in before.trans t.0)) ≡ true
    go true e is = cc is
    go false e is =
        let same : u ≡ t = cc is in
        let goes_on : test t.0 ≡ false = ap (λ (v : Txn). test v.0) (sym same) ∙ e in
        rw goes_on (seated.live c t (at ∙ ap Some same))

pub ended_valid : (test : ℕ → Bool) (how : End) (before later : Parts) → AreEnded test how before later → ((n : ℕ) → test n ≡ true → is_live_status (status_in before.trans n) ≡ true)
    → PartsAreTied later → PartsAreValid before → PartsAreValid later
unfolding AreEnrolled
ended_valid test how before later ended alive tied valid = record {
  locks = λ n. rw (ended.locks, ended.rows, set_ended test how before.trans alive n) (ap (λ names. lists names n) (names_released test (locks_of before)) ∙ lists_filter (λ m. not (test m)) (Locks.names_in (locks_of before)) n ∙ enrolled n (test n) (valid.locks n));
  seats = ended_seated test how before later ended alive valid.seats;
  tied = tied;
} where
  enrolled : (n : ℕ) (ends : Bool) → lists (Locks.names_in (locks_of before)) n ≡ is_live_status (status_in before.trans n) → (not ends && lists (Locks.names_in (locks_of before)) n) ≡ is_live_status (cond ends (ended_as how) (status_in before.trans n))
  enrolled n true same = sym (ended_not_live how)
  enrolled n false same = same

-- those who are marked have seats, and so they are live
pub marked_live : (rows : List NamedTransRow) (seats : Seated) (links : LinkTable) → LiveAreSeated rows seats → IsTied links seats → (n : ℕ) → lists (marked_in seats links) n ≡ true → is_live_status (status_in rows n) ≡ true
marked_live rows seats links seated tied n listed =
    let found = marked_seat seats links.marked.nodes n tied.taken listed in
    seated.live found.0 (record { 0 = n }) found.2

-- the one that leaves its seat is the one that ends
pub one_left : (seats left : Seated) (t : Txn) (s : ℕ) → seat seats s ≡ Some t → ((d : ℕ) → seat seats d ≡ Some t → d ≡ s) → ((c : ℕ) → seat left c ≡ cond (eqb c s) None (seat seats c)) → (c : ℕ) → seat left c ≡ unless_gone (λ n. eqb n t.0) (seat seats c)
unfolding unless_gone
one_left seats left t s sat one leaves c = leaves c ∙ go (eqb c s) refl (seat seats c) refl where
  go : (here : Bool) → eqb c s ≡ here → (who : Option Txn) → seat seats c ≡ who → cond here None who ≡ unless_gone (λ n. eqb n t.0) who
  go true e None at = refl
  go true e (Some u) at =
      let is : Some u ≡ Some t = sym at ∙ ap (seat seats) (eqb-true c s e) ∙ sat in
      let same : u ≡ t = cc is in
      sym (ap (λ gone. cond gone None (Some u)) (eq-eqb u.0 t.0 (ap (λ (v : Txn). v.0) same)))
  go false e None at = refl
  go false e (Some u) at = sym (ap (λ gone. cond gone None (Some u)) (ne_eqb u.0 t.0 (λ same. false≢true (sym e ∙ eq-eqb c s (one c (at ∙ (λ i. Some (record { 0 = same i }))))))))

-- of those who are this one, each is live if it is
pub one_live : (rows : List NamedTransRow) (t : ℕ) → is_live_status (status_in rows t) ≡ true → (n : ℕ) → eqb n t ≡ true → is_live_status (status_in rows n) ≡ true
one_live rows t alive n here = subst (λ m. is_live_status (status_in rows m) ≡ true) (sym (eqb-true n t here)) alive

-- ---- whether a class may commit

-- as many transactions are marked as seats
pub marks_are_many : (seats : Seated) (nodes : List ℕ) → length (marked_of seats nodes) ≡ length nodes
unfolding marked_of
marks_are_many seats nodes = length-map nodes (name_at seats)

-- the one at an index fails
pub one_fails : (test : ℕ → Bool) (names : List ℕ) (i n : ℕ) → slice_get names i ≡ Some n → test n ≡ false → list_all test names ≡ false
one_fails test names i n at fails = list_all_at test names i n (slice_get_within names i n at) (ap test (get_or_from_slice_get names i n n at) ∙ fails)

-- the one at an index passes, as those before it do
pub one_passes : (test : ℕ → Bool) (names : List ℕ) (i n : ℕ) → slice_get names i ≡ Some n → test n ≡ true → list_all test (take i names) ≡ true → list_all test (take (i + 1) names) ≡ true
one_passes test names i n at passes before =
    list_all_more test names i n (slice_get_within names i n at) ∙ and_from _ _ before (ap test (get_or_from_slice_get names i n n at) ∙ passes)

-- each of some names passes exactly if, of more names, each passes that is among the some
pub all_among : (test : ℕ → Bool) (some more : List ℕ) → ((n : ℕ) → lists some n ≡ true → lists more n ≡ true) → list_all test some ≡ list_all (λ n. not (lists some n) || test n) more
all_among test some more within = both_follow _ _
    (λ all. listed_all _ more (λ n listed. unless n (lists some n) refl (all_listed test some n all)))
    (λ all. listed_all test some (λ n listed. then_passes n (lists some n) listed (all_listed (λ m. not (lists some m) || test m) more n all (within n listed)))) where
      unless : (n : ℕ) (among : Bool) → lists some n ≡ among → (lists some n ≡ true → test n ≡ true) → (not among || test n) ≡ true
      unless n true e passes = passes e
      unless n false e passes = refl

      then_passes : (n : ℕ) (among : Bool) → among ≡ true → (not among || test n) ≡ true → test n ≡ true
      then_passes n true e h = h
      then_passes n false e h = absurd (false≢true e)

all_pushed : (test : ℕ → Bool) (names : List ℕ) (n : ℕ) → list_all test (names ++ n ∷ []) ≡ (list_all test names && test n)
all_pushed test [] n = go (test n) where
  go : (b : Bool) → (b && true) ≡ b
  go true = refl
  go false = refl
all_pushed test (m ∷ names) n = go (test m) (all_pushed test names n) where
  go : (b : Bool) → list_all test (names ++ n ∷ []) ≡ (list_all test names && test n) → (b && list_all test (names ++ n ∷ [])) ≡ ((b && list_all test names) && test n)
  go true ih = ih
  go false ih = refl

all_reverse : (test : ℕ → Bool) (names : List ℕ) → list_all test (reverse names) ≡ list_all test names
all_reverse test [] = refl
all_reverse test (n ∷ names) = rw (reverse-cons names n, all_pushed test (reverse names) n, all_reverse test names) (swapped (list_all test names) (test n)) where
  swapped : (p q : Bool) → (p && q) ≡ (q && p)
  swapped true true = refl
  swapped true false = refl
  swapped false true = refl
  swapped false false = refl

-- a live transaction has a row
pub live_named : (rows : List NamedTransRow) (n : ℕ) → is_live_status (status_in rows n) ≡ true → lists (names_of rows) n ≡ true
live_named rows n alive = sym (row_named rows n) ∙ row_known rows n (live_known (status_in rows n) alive)

-- what the tables say of a class is what the history says
pub may_commit_shown : (opening : Opening) (steps : List Step) (tables : Standing) (t : ℕ) → Shows opening steps (values_of tables) → may_commit_in tables t ≡ may_commit steps t
unfolding class_may_commit_in may_commit class_completed
may_commit_shown opening steps tables t stand = λ i. completed i && not (outside_shown steps tables.deps stand.dependencies_stand t i) where
  completed : list_all (λ n. not (class_in tables.deps t n) || is_completed (status_in tables.trans n)) (names_of tables.trans) ≡ list_all (λ n. not (same_class steps t n) || is_completed (status steps n)) (initiated steps)
  completed = (λ i. list_all (λ n. not (class_shown steps tables.deps stand.dependencies_stand t n i) || is_completed (stand.statuses n i)) (stand.names i)) ∙ all_reverse _ (initiated steps)

-- the class of a live transaction, by its marks
pub may_by_marks : (rows : List NamedTransRow) (seats : Seated) (links : LinkTable) (deps : List Dependency) (t : ℕ) (completed : Bool) → LiveAreSeated rows seats → IsTied links seats
    → ((n : ℕ) → lists (marked_in seats links) n ≡ class_in deps t n) → completed ≡ list_all (λ n. is_completed (status_in rows n)) (marked_in seats links)
    → completed ≡ list_all (λ n. not (class_in deps t n) || is_completed (status_in rows n)) (names_of rows)
may_by_marks rows seats links deps t completed seated tied same is =
    is ∙ all_among (λ n. is_completed (status_in rows n)) (marked_in seats links) (names_of rows) (λ n listed. live_named rows n (marked_live rows seats links seated tied n listed))
    ∙ (λ i. list_all (λ n. not (same n i) || is_completed (status_in rows n)) (names_of rows))

-- the class of one that is not enrolled is itself
may_alone : (rows : List NamedTransRow) (deps : List Dependency) (t : ℕ) → is_live_status (status_in rows t) ≡ true → ((n : ℕ) → class_in deps t n ≡ eqb t n) → outside_source_in deps t ≡ false
    → is_completed (status_in rows t) ≡ class_may_commit_in rows deps t
unfolding class_may_commit_in lists
may_alone rows deps t alive alone none =
    rw none (sym (trues (is_completed (status_in rows t)))
    ∙ all_among (λ n. is_completed (status_in rows n)) (t ∷ []) (names_of rows) (λ n listed. subst (λ m. lists (names_of rows) m ≡ true) (eqb-true t n (sym (falses (eqb t n)) ∙ listed)) (live_named rows t alive))
    ∙ (λ i. list_all (λ n. not ((falses (eqb t n) ∙ sym (alone n)) i) || is_completed (status_in rows n)) (names_of rows))
    ∙ sym (trues _)) where
      trues : (b : Bool) → (b && true) ≡ b
      trues true = refl
      trues false = refl

      falses : (b : Bool) → (b || false) ≡ b
      falses true = refl
      falses false = refl

-- and it may commit if its row says that it has completed
pub completed_may : (rows : List NamedTransRow) (deps : List Dependency) (t : ℕ) (at : Status) (done : Bool) → done ≡ is_completed at → at ≡ status_in rows t → is_live_status (status_in rows t) ≡ true
    → ((n : ℕ) → class_in deps t n ≡ eqb t n) → outside_source_in deps t ≡ false → done ≡ class_may_commit_in rows deps t
completed_may rows deps t at done completed said alive alone none = completed ∙ ap is_completed said ∙ may_alone rows deps t alive alone none
