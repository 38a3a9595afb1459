-- The runs are what came of the jobs, and what is left are jobs with their own bodies.
use Rattle.std.proofs.Common.{◌≡◌, ℕ, zero, suc, ◌+◌, ◌<◌, ◌⊎◌, true, false, ⊎_elim, List, [], ◌∷◌, ◌++◌, cond, length, map, Vec, Option, Some, None, sym, refl, ap, ◌∙◌, subst, arith}
use Rattle.std.specs.Prelude.{slice_get, IfSome, MatchOption}
use Rattle.std.proofs.lemmas.List.{length-map}
use mathlib.Core.Logic.{inl, inr}
use Rattle.std.specs.declared.dyn_box.DynBox.{DynBox}
use Rattle.std.specs.declared.alloc.Global.{Global}
use Rattle.atomic_table.specs.Seated.{TableId}
use Rattle.asset_names.specs.declared.names.Txn.{Txn}
use Rattle.asset_audit.specs.Audited.{Call}
use Rattle.asset_manager.specs.Asker.{Asker}
use Rattle.asset_bodies.specs.Working.{Working, Worked}
use Rattle.asset_queue.specs.Each.{Each, IsAmong}
use Rattle.asset_queue.specs.Once.{Ticket, weigh, SharedOut}
use Rattle.asset_queue.specs.Rows.{tickets_of, Came, EachOf}
use Rattle.asset_queue.proofs.Eaches.{each_append, each_among}
use Rattle.asset_runner.specs.Placing as placing
use Rattle.asset_runner.specs.Placing.{somes, nones}
use Rattle.asset_runner.specs.declared.arrival.Arrival.{Arrival}
use Rattle.asset_runner.specs.declared.arrival.Fate.{Fate}
use Rattle.asset_runner.specs.declared.arrival.Fate.TheVariants.{Left, Called}
use Rattle.asset_runner.specs.Runs.{JobRun, is_called, left_row, left_of}
use Rattle.asset_runner.specs.Fates.{answered_by, body_of, waits_by, AsksBegin, CallsBody, CallsSoFar, RunsBody}
use Rattle.asset_runner.specs.Arrived.{ticket_of, run_of, left_at, numbered, placed, DoesJob, GoesOn, AllGoOn}
use Rattle.asset_runner.specs.Rows.{all_of, names_of, runs_of, kept_row, kept_of, CameBack}
use Rattle.asset_runner.specs.Comes.{RunsOf, left_among}
use Rattle.asset_runner.proofs.ArrivedLemmas.{same_txn, stand_placed, tickets_all, as_many}
use Rattle.asset_runner.proofs.PlacingLemmas.{at, weighs_among, numbered_once, numbered_in}
use Rattle.asset_runner.proofs.GoesLemmas.{asks_on, not_waiting, all_at}

each_all : {E A : Type 0} (P : E → Type 0) (rows : List (Vec E A)) → EachOf P rows → Each P (all_of rows)
each_all P [] all = tt
each_all P (row ∷ rows) all = each_append P row.items (all_of rows) all.0 (each_all P rows all.1)

-- a job stands at the place of its ticket
numbered_place : {J : Type 0} (ticket : J → Ticket) (jobs : List J) (base : ℕ) (ns : List ℕ) (k : ℕ) (j : J) → map ticket jobs ≡ placing.numbered base ns → slice_get jobs k ≡ Some j → (ticket j).0 ≡ base + k
numbered_place ticket [] base ns k j h e = absurd (cc e)
numbered_place ticket (x ∷ xs) base [] k j h e = absurd (cc h)
numbered_place ticket (x ∷ xs) base (n ∷ ns) zero j h e =
    let same : x ≡ j = cc e in
    let at : ticket x ≡ (base, n) = cc h in
    let place : (ticket j).0 ≡ base = ap (λ (y : _). (ticket y).0) (sym same) ∙ ap (λ (t : Ticket). t.0) at in
    omega (arith, place)
numbered_place ticket (x ∷ xs) base (n ∷ ns) (suc k) j h e =
    let rest : map ticket xs ≡ placing.numbered (base + 1) ns = cc h in
    let r = numbered_place ticket xs (base + 1) ns k j rest e in
    omega (arith, r)

one_at : {A : Type 0} (xs : List A) (i : ℕ) → i < length xs → (x : A) × (slice_get xs i ≡ Some x)
one_at [] i below = absurd (omega (arith, below))
one_at (x ∷ xs) zero below = (x, refl)
one_at (x ∷ xs) (suc i) below = one_at xs i (omega (arith, below))

-- if a row of left jobs and more is empty, its job was called
row_called : (t : Txn) (answered : Option Txn) (more : List Txn) → left_row t answered ++ more ≡ [] → (is_called answered ≡ true) × (more ≡ [])
row_called t None more e = absurd (cc e)
row_called t (Some u) more e = (refl, e)

-- without runs there is nothing to say
pub nothing_ran : {J : Type 0} (ran : J → JobRun → Type 0) (jobs : List J) → RunsOf ran jobs []
nothing_ran ran jobs i job run at_job at_run = absurd (cc at_run)

pub nothing_left_among : {J K : Type 0} (name : J → Txn) (body : J → K) (jobs : List J) → left_among name body jobs [] ≡ []
nothing_left_among name body [] = refl
nothing_left_among name body (job ∷ jobs) = refl

module _ {X : Type 0} {B : X → Type 0} where
  -- who stands in order goes on from one that came back in a row or was left
  pub came_back : {A : Type 0} (names : List Txn) (n : ℕ) (tickets : List Ticket) (rows : List (Vec (Arrival X B) A)) (left : List (Arrival X B)) (lefts : List Ticket) (order order' : List (Arrival X B))
      → n ≡ length names → tickets ≡ numbered names → map ticket_of left ≡ lefts → SharedOut tickets (tickets_of ticket_of rows) lefts
      → order ≡ somes (placed (placed (nones n) left) (all_of rows)) → AllGoOn order order' → CameBack (all_of rows ++ left) order'
  came_back names n tickets rows left lefts order order' len ts ls shared o go i b at =
      let was = all_at order order' i b go at in
      let first : slice_get (somes (placed (placed (nones (length names)) left) (all_of rows))) i ≡ Some was.0 =
      ap (λ m. slice_get (somes (placed (placed (nones m) left) (all_of rows))) i) (sym len) ∙ (ap (λ (l : List (Arrival X B)). slice_get l i) (sym o) ∙ was.1) in
      let stand = stand_placed names tickets rows left lefts ts ls shared i was.0 first in
      (was.0, stand.1, stand.0, was.2)

  runs_at : (order : List (Arrival X B)) (i : ℕ) (run : JobRun) → slice_get (runs_of order) i ≡ Some run → (b : Arrival X B) × (slice_get order i ≡ Some b) × (run_of b ≡ run)
  runs_at [] i run e = absurd (cc e)
  runs_at (x ∷ xs) zero run e = let same : run_of x ≡ run = cc e in (x, refl, same)
  runs_at (x ∷ xs) (suc i) run e = runs_at xs i run e

  -- a job that was left has no commit that waits
  fate_left : (fate : Fate X B) → answered_by fate ≡ None → waits_by fate ≡ false
  fate_left (Left body) e = refl
  fate_left (Called answered waits) e = absurd (cc e)

  -- what was called goes on, and what was left stays so
  runs_on : (post : Working → Worked → Type 0) (name : Txn) (manager : TableId) (before : List Call) (a b : Arrival X B) → GoesOn a b
      → DoesJob post name manager before a → RunsBody post name manager before (run_of b)
  runs_on post name manager before a b g does = go (answered_by b.fate) refl
    where
      go : (o : Option Txn) → answered_by b.fate ≡ o → MatchOption o (AsksBegin name before b.returned.list.calls) (CallsBody post name manager before b.returned.list.calls)
      go None who =
          let e : answered_by a.fate ≡ None = sym g.answered ∙ who in
          let h : AsksBegin name before a.returned.list.calls = subst (λ (o : Option Txn). MatchOption o (AsksBegin name before a.returned.list.calls) (CallsSoFar post name manager before a.returned.list.calls (waits_by a.fate))) e does in
          subst (λ (l : List Call). AsksBegin name before l) (sym (g.settled (fate_left a.fate e)).1) h
      go (Some u) who =
          let e : answered_by a.fate ≡ Some u = sym g.answered ∙ who in
          let h : CallsSoFar post name manager before a.returned.list.calls (waits_by a.fate) u = subst (λ (o : Option Txn). MatchOption o (AsksBegin name before a.returned.list.calls) (CallsSoFar post name manager before a.returned.list.calls (waits_by a.fate))) e does in
          record {
            tx = h.calls.tx;
            finished = h.calls.finished;
            named = h.calls.named;
            of = h.calls.of;
            begun = h.calls.begun;
            answered = h.calls.answered;
            whose = h.calls.whose;
            kept = asks_on a b u h.calls.finished.list.calls g e h.calls.kept (λ w. (h.waiting w).1);
            given_up = λ d. (g.settled (not_waiting a h.calls.finished.done d (λ w. (h.waiting w).0))).1 ∙ h.calls.given_up d;
          }

  among_either : (xs ys : List (Arrival X B)) (x : Arrival X B) → IsAmong (xs ++ ys) x → IsAmong xs x ⊎ IsAmong ys x
  among_either [] ys x at = inr at
  among_either (y ∷ xs) ys x (zero, e) = inl (0, e)
  among_either (y ∷ xs) ys x (suc i, e) = ⊎_elim (λ m. inl (suc m.0, m.1)) (λ m. inr m) (among_either xs ys x (i, e))

  -- if none is left, each was called
  called_at : (order : List (Arrival X B)) (i : ℕ) (b : Arrival X B) → left_of (runs_of order) ≡ [] → slice_get order i ≡ Some b → is_called (answered_by b.fate) ≡ true
  called_at [] i b none at = absurd (cc at)
  called_at (x ∷ xs) zero b none at =
      let same : x ≡ b = cc at in
      subst (λ (y : Arrival X B). is_called (answered_by y.fate) ≡ true) same (row_called x.name (answered_by x.fate) (left_of (runs_of xs)) none).0
  called_at (x ∷ xs) (suc i) b none at = called_at xs i b (row_called x.name (answered_by x.fate) (left_of (runs_of xs)) none).1 at

module _ {J X : Type 0} {B : X → Type 0} (place : J → ℕ) (name : J → Txn) (body : J → DynBox X Global B) (session : J → Asker) where
  abbrev ticket : J → Ticket
  ticket j = (place j, (name j).0)

  abbrev lefts : List J → List (Arrival X B)
  lefts left = map (λ j. left_at (place j) (name j) (body j) (session j)) left

  abbrev Has : J → Fate X B → Type 0
  Has j fate = IfSome (body_of fate) (λ (d : DynBox X Global B). d ≡ body j)

  -- what is kept stands under the names of the jobs, each with the body of the job at its place
  kept_are : (order : List (Arrival X B)) (jobs : List J) (k : ℕ) → map ticket jobs ≡ placing.numbered k (map (λ (t : Txn). t.0) (names_of order))
      → ((i : ℕ) (job : J) (b : Arrival X B) → slice_get jobs i ≡ Some job → slice_get order i ≡ Some b → Has job b.fate) → kept_of order ≡ left_among name body jobs (runs_of order)
  kept_are [] [] k ts has = refl
  kept_are [] (j ∷ js) k ts has = absurd (cc ts)
  kept_are (b ∷ bs) [] k ts has = absurd (cc ts)
  kept_are (b ∷ bs) (j ∷ js) k ts has =
      let first : ticket j ≡ (k, b.name.0) = cc ts in
      let rest : map ticket js ≡ placing.numbered (k + 1) (map (λ (t : Txn). t.0) (names_of bs)) = cc ts in
      let named : b.name ≡ name j = same_txn b.name (name j) (sym (ap (λ (t : Ticket). t.1) first)) in
      ap (λ l. l ++ kept_of bs) (row b.name named b.fate (has 0 j b refl refl))
      ∙ ap (λ l. cond (is_called (answered_by b.fate)) [] ((name j, body j) ∷ []) ++ l) (kept_are bs js (k + 1) rest (λ i. has (suc i)))
    where
      row : (t : Txn) → t ≡ name j → (fate : Fate X B) → Has j fate → kept_row t (body_of fate) ≡ cond (is_called (answered_by fate)) [] ((name j, body j) ∷ [])
      row t named (Left d) same = λ i. (named i, same i) ∷ []
      row t named (Called answered waits) same = refl

  -- of a job that was left no body was called
  lefts_uncalled : (left : List J) → Each (λ (a : Arrival X B). is_called (answered_by a.fate) ≡ false) (lefts left)
  lefts_uncalled [] = tt
  lefts_uncalled (j ∷ left) = (refl, lefts_uncalled left)

  -- the place of a job that was left has one that was not called
  left_stands : {A : Type 0} (names : List Txn) (jobs left : List J) (rows : List (Vec (Arrival X B) A)) (order : List (Arrival X B)) (j : J)
      → map ticket jobs ≡ numbered names → SharedOut (map ticket jobs) (tickets_of ticket_of rows) (map ticket left) → CameBack (all_of rows ++ lefts left) order → names_of order ≡ names
      → left_of (runs_of order) ≡ [] → IsAmong left j → ⊥
  left_stands names jobs left rows order j ts shared back ns none among =
      let p = place j in
      let numbers = map (λ (t : Txn). t.0) names in
      let even = shared (at p) in
      let whole : weigh (at p) (map ticket jobs) ≡ weigh (at p) (numbered names) = ap (weigh (at p)) ts in
      let one : 0 < weigh (at p) (map ticket left) = weighs_among ticket left j p among refl in
      let once = numbered_once 0 numbers p in
      let few : p < 0 + length numbers = numbered_in 0 numbers p (omega (arith, even, whole, one)) in
      let many : length order ≡ length names = as_many order names ns in
      let there = one_at order p (omega (arith, few, many, length-map names (λ (t : Txn). t.0))) in
      let a = back p there.0 there.1 in
      let called : is_called (answered_by a.0.fate) ≡ true = subst (λ (o : Option Txn). is_called o ≡ true) a.3.answered (called_at order p there.0 none there.1) in
      ⊎_elim
      (λ (in_row : IsAmong (all_of rows) a.0).
      let two : 0 < weigh (at p) (map ticket_of (all_of rows)) = weighs_among ticket_of (all_of rows) a.0 p in_row a.2 in
      let same : weigh (at p) (tickets_of ticket_of rows) ≡ weigh (at p) (map ticket_of (all_of rows)) = ap (weigh (at p)) (tickets_all rows) in
      omega (arith, even, whole, once, one, two, same))
      (λ (in_left : IsAmong (lefts left) a.0).
      let not_called : is_called (answered_by a.0.fate) ≡ false = each_among (λ (a : Arrival X B). is_called (answered_by a.fate) ≡ false) (lefts left) a.0 (lefts_uncalled left) in_left in
      cc (called, not_called))
      (among_either (all_of rows) (lefts left) a.0 a.1)

  -- if the workers left a job unless there are no jobs, then by the runs some body was not called, unless there are no runs
  pub somebody_left : {A : Type 0} (names : List Txn) (jobs left : List J) (rows : List (Vec (Arrival X B) A)) (order : List (Arrival X B))
      → map ticket jobs ≡ numbered names → SharedOut (map ticket jobs) (tickets_of ticket_of rows) (map ticket left) → CameBack (all_of rows ++ lefts left) order → names_of order ≡ names
      → (left ≡ [] → jobs ≡ []) → left_of (runs_of order) ≡ [] → runs_of order ≡ []
  somebody_left names jobs [] rows order ts shared back ns ran_out none = nothing names order (sym (ap (map ticket) (ran_out refl)) ∙ ts) ns
    where
      nothing : (names : List Txn) (order : List (Arrival X B)) → [] ≡ numbered names → names_of order ≡ names → runs_of order ≡ []
      nothing names [] ts ns = refl
      nothing [] (b ∷ bs) ts ns = absurd (cc ns)
      nothing (t ∷ names) (b ∷ bs) ts ns = absurd (cc ts)
  somebody_left names jobs (j ∷ left) rows order ts shared back ns ran_out none = absurd (left_stands names jobs (j ∷ left) rows order j ts shared back ns none (0, refl))

  module _ (manager : J → TableId) (post : J → Working → Worked → Type 0) where
    abbrev Ran : J → JobRun → Type 0
    Ran j run = RunsBody (post j) (name j) (manager j) (session j).list.calls run

    abbrev Does : J → Arrival X B → Type 0
    Does j a = DoesJob (post j) (name j) (manager j) (session j).list.calls a

    abbrev Is : List J → Arrival X B → Type 0
    Is jobs a = Came (IsAmong jobs) ticket ticket_of (λ (j : J) (a : Arrival X B). Does j a × Has j a.fate) a

    -- a job that was left has its own body
    each_left : (jobs left : List J) → Each (IsAmong jobs) left → Each (Is jobs) (lefts left)
    each_left jobs [] all = tt
    each_left jobs (j ∷ left) all = (record { job = j; one = all.0; same = refl; is = (inl refl, refl) }, each_left jobs left all.1)

    -- who stands at the place of a job came of it
    came_of : {A : Type 0} (names : List Txn) (jobs left : List J) (rows : List (Vec (Arrival X B) A)) (order : List (Arrival X B))
        → map ticket jobs ≡ numbered names → EachOf (Is jobs) rows → Each (IsAmong jobs) left → CameBack (all_of rows ++ lefts left) order
        → (i : ℕ) (job : J) (b : Arrival X B) → slice_get jobs i ≡ Some job → slice_get order i ≡ Some b → (a : Arrival X B) × GoesOn a b × Does job a × Has job a.fate
    came_of names jobs left rows order ts came among back i job b at_job at =
        let a = back i b at in
        let c : Is jobs a.0 = each_among (Is jobs) (all_of rows ++ lefts left) a.0 (each_append (Is jobs) (all_of rows) (lefts left) (each_all (Is jobs) rows came) (each_left jobs left among)) a.1 in
        let stands : place c.job ≡ 0 + c.one.0 = numbered_place ticket jobs 0 (map (λ (t : Txn). t.0) names) c.one.0 c.job ts c.one.1 in
        let given : a.0.place ≡ place c.job = ap (λ (t : Ticket). t.0) c.same in
        let here : c.one.0 ≡ i = omega (arith, stands, given, a.2) in
        let both : Some c.job ≡ Some job = sym c.one.1 ∙ (ap (slice_get jobs) here ∙ at_job) in
        let same : c.job ≡ job = cc both in
        let is : Does job a.0 × Has job a.0.fate = subst (λ (j : J). Does j a.0 × Has j a.0.fate) same c.is in
        (a.0, a.3, is.0, is.1)

    pub runs_of_jobs : {A : Type 0} (names : List Txn) (jobs left : List J) (rows : List (Vec (Arrival X B) A)) (order : List (Arrival X B))
        → map ticket jobs ≡ numbered names → EachOf (Is jobs) rows → Each (IsAmong jobs) left → CameBack (all_of rows ++ lefts left) order → RunsOf Ran jobs (runs_of order)
    runs_of_jobs names jobs left rows order ts came among back i job run at_job at_run =
        let b = runs_at order i run at_run in
        let a = came_of names jobs left rows order ts came among back i job b.0 at_job b.1 in
        subst (Ran job) b.2 (runs_on (post job) (name job) (manager job) (session job).list.calls a.0 b.0 a.1 a.2)

    pub left_of_jobs : {A : Type 0} (names : List Txn) (jobs left : List J) (rows : List (Vec (Arrival X B) A)) (order : List (Arrival X B))
        → map ticket jobs ≡ numbered names → EachOf (Is jobs) rows → Each (IsAmong jobs) left → CameBack (all_of rows ++ lefts left) order → names_of order ≡ names
        → kept_of order ≡ left_among name body jobs (runs_of order)
    left_of_jobs names jobs left rows order ts came among back ns =
        kept_are order jobs 0 (ts ∙ sym (ap numbered ns)) (λ i job b at_job at.
        let a = came_of names jobs left rows order ts came among back i job b at_job at in
        subst (λ (o : Option (DynBox X Global B)). IfSome o (λ (d : DynBox X Global B). d ≡ body job)) (sym a.1.body) a.3)
