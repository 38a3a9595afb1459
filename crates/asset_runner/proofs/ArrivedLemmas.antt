-- Lists of arrivals.
use Rattle.std.proofs.Common.{◌≡◌, ℕ, zero, suc, ◌+◌, ◌<◌, ◌≤◌, List, [], ◌∷◌, ◌++◌, length, map, set, Vec, Option, Some, None, sym, refl, ap, ◌∙◌, subst, append_assoc, arith}
use Rattle.std.specs.Prelude.{slice_get, MatchOption}
use Rattle.std.specs.declared.dyn_box.DynBox.{DynBox}
use Rattle.std.specs.declared.alloc.Global.{Global}
use Rattle.std.proofs.lemmas.List.{map-append, append-nil, length-map}
use Rattle.asset_names.specs.declared.names.Txn.{Txn}
use Rattle.asset_manager.specs.Asker.{Asker}
use Rattle.asset_queue.specs.Each.{IsAmong}
use Rattle.asset_queue.specs.Once.{Ticket, weigh, SharedOut}
use Rattle.asset_queue.specs.Rows.{tickets_of}
use Rattle.asset_queue.proofs.Moves.{weigh-append}
use Rattle.asset_runner.specs.declared.report.RunCause.{RunCause}
use Rattle.asset_runner.specs.declared.report.RunCause.TheVariants.{NoWorkers, NoMemory, Stranger}
use Rattle.asset_runner.specs.Placing as placing
use Rattle.asset_runner.specs.Placing.{somes, nones}
use Rattle.asset_runner.specs.declared.arrival.Arrival.{Arrival}
use Rattle.asset_runner.specs.declared.arrival.Fate.{Fate}
use Rattle.asset_runner.specs.declared.arrival.Fate.TheVariants.{Left, Called}
use Rattle.asset_runner.specs.Runs.{JobRun, left_row, left_of}
use Rattle.asset_runner.specs.Fates.{answered_by, body_of}
use Rattle.asset_runner.specs.Arrived.{ticket_of, left_at, numbered, placed}
use Rattle.asset_runner.specs.Rows.{all_of, names_of, runs_of, kept_row, kept_of}
use Rattle.asset_runner.specs.Comes.{IsWorkCause}
use Rattle.asset_runner.proofs.PlacingLemmas.{placed-append, length_placed, length_nones, somes-append, comes_back, stand_among}

pub all_of-append : {E A : Type 0} (xs ys : List (Vec E A)) → all_of (xs ++ ys) ≡ all_of xs ++ all_of ys
all_of-append [] ys = refl
all_of-append (x ∷ xs) ys = ap (λ l. x.items ++ l) (all_of-append xs ys) ∙ sym (append_assoc x.items (all_of xs) (all_of ys))

abbrev txn : ℕ → Txn
txn n = record { 0 = n }

pub same_txn : (x y : Txn) → x.0 ≡ y.0 → x ≡ y
same_txn x y e = ap txn e

numbers_names : (xs ys : List Txn) → map (λ (t : Txn). t.0) xs ≡ map (λ (t : Txn). t.0) ys → xs ≡ ys
numbers_names [] [] e = refl
numbers_names [] (y ∷ ys) e = absurd (cc)
numbers_names (x ∷ xs) [] e = absurd (cc)
numbers_names (x ∷ xs) (y ∷ ys) e =
    let h : x.0 ≡ y.0 = cc in
    let t : map (λ (t : Txn). t.0) xs ≡ map (λ (t : Txn). t.0) ys = cc in
    λ i. same_txn x y h i ∷ numbers_names xs ys t i

pub somes_few : {A : Type 0} (xs : List (Option A)) → length (somes xs) ≤ length xs
somes_few [] = omega arith
somes_few (None ∷ xs) = omega (arith, somes_few xs)
somes_few (Some x ∷ xs) = omega (arith, somes_few xs)

pub nones_more : (A : Type 0) (n : ℕ) → nones {A = A} n ++ None ∷ [] ≡ nones (n + 1)
nones_more A n = snoc n ∙ ap (nones {A = A}) (one n)
  where
    snoc : (m : ℕ) → nones {A = A} m ++ None ∷ [] ≡ nones (suc m)
    snoc zero = refl
    snoc (suc m) = ap (λ l. None ∷ l) (snoc m)

    one : (m : ℕ) → suc m ≡ m + 1
    one m = omega arith

pub somes_more : {A : Type 0} (xs : List (Option A)) (o : Option A) (a : A) → o ≡ Some a → somes (xs ++ o ∷ []) ≡ somes xs ++ a ∷ []
somes_more xs o a e = ap (λ o. somes (xs ++ o ∷ [])) e ∙ somes-append xs (Some a ∷ [])

pub somes_same : {A : Type 0} (xs : List (Option A)) (o : Option A) → o ≡ None → somes (xs ++ o ∷ []) ≡ somes xs
somes_same xs o e = ap (λ o. somes (xs ++ o ∷ [])) e ∙ (somes-append xs (None ∷ []) ∙ append-nil (somes xs))

pub nones_len : {A : Type 0} (xs : List (Option A)) (n : ℕ) → xs ≡ nones n → length xs ≡ n
nones_len {A} xs n e = ap length e ∙ length_nones A n

-- what a push adds to a map of the items
pub pushed : {E B : Type 0} (f : E → B) (old new : List E) (x : E) (ys : List B) (y : B) → new ≡ old ++ x ∷ [] → map f old ≡ ys → f x ≡ y → map f new ≡ ys ++ y ∷ []
pushed f old new x ys y e o h = ap (map f) e ∙ (map-append f old (x ∷ []) ∙ (λ i. o i ++ h i ∷ []))

-- what was added to is still what a longer list begins with
pub more_after : {E : Type 0} (first old new : List E) (x : E) → new ≡ old ++ x ∷ [] → (rest : List E) × (old ≡ first ++ rest) → (rest : List E) × (new ≡ first ++ rest)
more_after first old new x e was = (was.0 ++ x ∷ [], e ∙ (ap (λ l. l ++ x ∷ []) was.1 ∙ append_assoc first was.0 (x ∷ [])))

numbered_last : (k : ℕ) (ns : List ℕ) (n : ℕ) → placing.numbered k (ns ++ n ∷ []) ≡ placing.numbered k ns ++ (k + length ns, n) ∷ []
numbered_last k [] n = let e : k ≡ k + 0 = omega arith in ap (λ (m : ℕ). (m, n) ∷ []) e
numbered_last k (x ∷ xs) n =
    let e : k + 1 + length xs ≡ k + suc (length xs) = omega arith in
    ap (λ l. (k, x) ∷ l) (numbered_last (k + 1) xs n ∙ ap (λ (m : ℕ). placing.numbered (k + 1) xs ++ (m, n) ∷ []) e)

-- the tickets of the jobs, after a job more
pub tickets_more : {E : Type 0} (f : E → Ticket) (jobs jobs' : List E) (job : E) (names names' : List Txn) (t : Txn) (n : ℕ)
    → jobs' ≡ jobs ++ job ∷ [] → names' ≡ names ++ t ∷ [] → f job ≡ (n, t.0) → n ≡ length names → map f jobs ≡ numbered names → map f jobs' ≡ numbered names'
tickets_more f jobs jobs' job names names' t n j ns x len was =
    let nums : List ℕ = map (λ (t : Txn). t.0) names in
    let l : length nums ≡ length names = length-map names (λ (t : Txn). t.0) in
    let place : n ≡ 0 + length nums = omega (arith, len, l) in
    let at : f job ≡ (0 + length nums, t.0) = x ∙ ap (λ (m : ℕ). (m, t.0)) place in
    let m : map (λ (t : Txn). t.0) (names ++ t ∷ []) ≡ nums ++ t.0 ∷ [] = map-append (λ (t : Txn). t.0) names (t ∷ []) in
    pushed f jobs jobs' job (numbered names) (0 + length nums, t.0) j was at
    ∙ sym (ap numbered ns ∙ (ap (placing.numbered 0) m ∙ numbered_last 0 nums t.0))

-- the cause stands with what follows of what is so if memory ran out
pub cause_so : (workers : ℕ) (P Q : Type 0) (cause : Option RunCause) → (P → Q) → MatchOption cause (0 < workers) (λ k. IsWorkCause workers P k) → MatchOption cause (0 < workers) (λ k. IsWorkCause workers Q k)
cause_so workers P Q None so h = h
cause_so workers P Q (Some NoWorkers) so h = h
cause_so workers P Q (Some NoMemory) so h = (h.0, so h.1)
cause_so workers P Q (Some (Stranger t)) so h = absurd h

module _ {X : Type 0} {B : X → Type 0} where
  pub placed-snoc : (slots : List (Option (Arrival X B))) (xs : List (Arrival X B)) (x : Arrival X B) → placed slots (xs ++ x ∷ []) ≡ placed (set slots x.place (Some x)) xs
  placed-snoc slots xs x = placed-append (λ (a : Arrival X B). a.place) (λ (a : Arrival X B). a.name.0) slots xs (x ∷ [])

  -- the last row is put first
  pub placed_row : {A : Type 0} (slots : List (Option (Arrival X B))) (rows : List (Vec (Arrival X B) A)) (row : Vec (Arrival X B) A) → placed slots (all_of (rows ++ row ∷ [])) ≡ placed (placed slots row.items) (all_of rows)
  placed_row slots rows row =
      let e : all_of (rows ++ row ∷ []) ≡ all_of rows ++ (row.items ++ []) = all_of-append rows (row ∷ []) in
      let n : row.items ++ [] ≡ row.items = append-nil row.items in
      ap (placed slots) (e ∙ ap (λ l. all_of rows ++ l) n) ∙ placed-append (λ (a : Arrival X B). a.place) (λ (a : Arrival X B). a.name.0) slots (all_of rows) row.items

  pub tickets_all : {A : Type 0} (rows : List (Vec (Arrival X B) A)) → tickets_of ticket_of rows ≡ map ticket_of (all_of rows)
  tickets_all [] = refl
  tickets_all (r ∷ rs) = ap (λ l. map ticket_of r.items ++ l) (tickets_all rs) ∙ sym (map-append ticket_of r.items (all_of rs))

  -- the tickets of the jobs are those of what comes back
  counted : {A : Type 0} (names : List Txn) (tickets : List Ticket) (rows : List (Vec (Arrival X B) A)) (left : List (Arrival X B)) (lefts : List Ticket)
      → tickets ≡ numbered names → map ticket_of left ≡ lefts → SharedOut tickets (tickets_of ticket_of rows) lefts
      → (h : ℕ × ℕ → ℕ) → weigh h (numbered names) ≡ weigh h (map ticket_of (all_of rows ++ left))
  counted names tickets rows left lefts ts ls shared h =
      let s = shared h in
      let t : weigh h tickets ≡ weigh h (numbered names) = ap (weigh h) ts in
      let l : weigh h (map ticket_of left) ≡ weigh h lefts = ap (weigh h) ls in
      let r : weigh h (tickets_of ticket_of rows) ≡ weigh h (map ticket_of (all_of rows)) = ap (weigh h) (tickets_all rows) in
      let m : weigh h (map ticket_of (all_of rows ++ left)) ≡ weigh h (map ticket_of (all_of rows) ++ map ticket_of left) = ap (weigh h) (map-append ticket_of (all_of rows) left) in
      omega (arith, s, t, l, r, m, weigh-append h (map ticket_of (all_of rows)) (map ticket_of left))

  -- all are put at once, or the rows after what was left
  all_placed : {A : Type 0} (names : List Txn) (rows : List (Vec (Arrival X B) A)) (left : List (Arrival X B))
      → placed (nones (length (map (λ (t : Txn). t.0) names))) (all_of rows ++ left) ≡ placed (placed (nones (length names)) left) (all_of rows)
  all_placed names rows left =
      ap (λ n. placed (nones n) (all_of rows ++ left)) (length-map names (λ (t : Txn). t.0))
      ∙ placed-append (λ (a : Arrival X B). a.place) (λ (a : Arrival X B). a.name.0) (nones (length names)) (all_of rows) left

  -- what comes back stands in order, under the names of the jobs
  pub arranged : {A : Type 0} (names : List Txn) (tickets : List Ticket) (rows : List (Vec (Arrival X B) A)) (left : List (Arrival X B)) (lefts : List Ticket)
      → tickets ≡ numbered names → map ticket_of left ≡ lefts → SharedOut tickets (tickets_of ticket_of rows) lefts
      → names_of (somes (placed (placed (nones (length names)) left) (all_of rows))) ≡ names
  arranged names tickets rows left lefts ts ls shared =
      let numbers : List ℕ = map (λ (t : Txn). t.0) names in
      let name = λ (a : Arrival X B). a.name.0 in
      let back : map name (somes (placed (nones (length numbers)) (all_of rows ++ left))) ≡ numbers = comes_back (λ (a : Arrival X B). a.place) name numbers (all_of rows ++ left) (counted names tickets rows left lefts ts ls shared) in
      let f : map name (somes (placed (placed (nones (length names)) left) (all_of rows))) ≡ numbers = subst (λ (o : List (Option (Arrival X B))). map name (somes o) ≡ numbers) (all_placed names rows left) back in
      numbers_names (names_of (somes (placed (placed (nones (length names)) left) (all_of rows)))) names (twice (somes (placed (placed (nones (length names)) left) (all_of rows))) ∙ f)
    where
      twice : (xs : List (Arrival X B)) → map (λ (t : Txn). t.0) (names_of xs) ≡ map (λ (a : Arrival X B). a.name.0) xs
      twice [] = refl
      twice (x ∷ xs) = ap (λ l. x.name.0 ∷ l) (twice xs)

  -- what stands in order stands in its place, and came back or was left
  pub stand_placed : {A : Type 0} (names : List Txn) (tickets : List Ticket) (rows : List (Vec (Arrival X B) A)) (left : List (Arrival X B)) (lefts : List Ticket)
      → tickets ≡ numbered names → map ticket_of left ≡ lefts → SharedOut tickets (tickets_of ticket_of rows) lefts
      → (i : ℕ) (b : Arrival X B) → slice_get (somes (placed (placed (nones (length names)) left) (all_of rows))) i ≡ Some b → (b.place ≡ i) × IsAmong (all_of rows ++ left) b
  stand_placed names tickets rows left lefts ts ls shared i b at =
      stand_among (λ (a : Arrival X B). a.place) (λ (a : Arrival X B). a.name.0) (map (λ (t : Txn). t.0) names) (all_of rows ++ left) (counted names tickets rows left lefts ts ls shared) i b
      (ap (λ (o : List (Option (Arrival X B))). slice_get (somes o) i) (all_placed names rows left) ∙ at)

  -- the last of what is to be placed is placed first
  pub placed_last : {E : Type 0} (f : E → Arrival X B) (slots slots' : List (Option (Arrival X B))) (all xs : List E) (x : E) (a : Arrival X B)
      → a ≡ f x → slots' ≡ set slots a.place (Some a) → all ≡ xs ++ x ∷ [] → placed slots' (map f xs) ≡ placed slots (map f all)
  placed_last {E} f slots slots' all xs x a e s h =
      let m : map f (xs ++ x ∷ []) ≡ map f xs ++ f x ∷ [] = map-append f xs (x ∷ []) in
      let p : placed slots (map f xs ++ f x ∷ []) ≡ placed (set slots (f x).place (Some (f x))) (map f xs) = placed-snoc slots (map f xs) (f x) in
      let q : slots' ≡ set slots (f x).place (Some (f x)) = s ∙ ap (λ (b : Arrival X B). set slots b.place (Some b)) e in
      ap (λ (l : List (Option (Arrival X B))). placed l (map f xs)) q ∙ sym (ap (λ (l : List E). placed slots (map f l)) h ∙ (ap (placed slots) m ∙ p))

  pub calls_snoc : (xs : List (Arrival X B)) (a : Arrival X B) → map (λ (s : JobRun). s.calls) (runs_of (xs ++ a ∷ [])) ≡ map (λ (s : JobRun). s.calls) (runs_of xs) ++ a.returned.list.calls ∷ []
  calls_snoc [] a = refl
  calls_snoc (x ∷ xs) a = ap (λ l. x.returned.list.calls ∷ l) (calls_snoc xs a)

  -- the sessions' calls, after a session more
  pub calls_more : (old new first : List Asker) (s : Asker) (xs : List (Arrival X B)) (a : Arrival X B) → new ≡ old ++ s ∷ [] → s.list.calls ≡ a.returned.list.calls
      → map (λ (s : Asker). s.list.calls) old ≡ map (λ (s : Asker). s.list.calls) first ++ map (λ (s : JobRun). s.calls) (runs_of xs)
      → map (λ (s : Asker). s.list.calls) new ≡ map (λ (s : Asker). s.list.calls) first ++ map (λ (s : JobRun). s.calls) (runs_of (xs ++ a ∷ []))
  calls_more old new first s xs a e h o =
      pushed (λ (s : Asker). s.list.calls) old new s (map (λ (s : Asker). s.list.calls) first ++ map (λ (s : JobRun). s.calls) (runs_of xs)) a.returned.list.calls e o h
      ∙ (append_assoc (map (λ (s : Asker). s.list.calls) first) (map (λ (s : JobRun). s.calls) (runs_of xs)) (a.returned.list.calls ∷ []) ∙ ap (λ l. map (λ (s : Asker). s.list.calls) first ++ l) (sym (calls_snoc xs a)))

  pub names_runs : (xs : List (Arrival X B)) → map (λ (s : JobRun). s.name) (runs_of xs) ≡ names_of xs
  names_runs [] = refl
  names_runs (x ∷ xs) = ap (λ l. x.name ∷ l) (names_runs xs)

  placed_few : {A : Type 0} (n : ℕ) (left : List (Arrival X B)) (rows : List (Vec (Arrival X B) A)) → length (placed (placed (nones n) left) (all_of rows)) ≡ n
  placed_few n left rows =
      length_placed (λ (a : Arrival X B). a.place) (λ (a : Arrival X B). a.name.0) (placed (nones n) left) (all_of rows)
      ∙ (length_placed (λ (a : Arrival X B). a.place) (λ (a : Arrival X B). a.name.0) (nones n) left ∙ length_nones (Arrival X B) n)

  -- what was placed into so many empty places has as many
  pub placed_len : {A : Type 0} (n : ℕ) (left : List (Arrival X B)) (rows : List (Vec (Arrival X B) A)) (empty slots slots' : List (Option (Arrival X B)))
      → empty ≡ nones n → slots ≡ placed empty left → slots' ≡ placed slots (all_of rows) → length slots' ≡ n
  placed_len n left rows empty slots slots' e s s' =
      ap (length {A = Option (Arrival X B)}) (s' ∙ ap (λ (l : List (Option (Arrival X B))). placed l (all_of rows)) (s ∙ ap (λ (l : List (Option (Arrival X B))). placed l left) e)) ∙ placed_few n left rows

  pub lefts_are : {E : Type 0} (place : E → ℕ) (name : E → Txn) (body : E → DynBox X Global B) (session : E → Asker) (xs : List E)
      → map ticket_of (map (λ x. left_at (place x) (name x) (body x) (session x)) xs) ≡ map (λ x. (place x, (name x).0)) xs
  lefts_are place name body session [] = refl
  lefts_are place name body session (x ∷ xs) = ap (λ l. (place x, (name x).0) ∷ l) (lefts_are place name body session xs)

  -- what comes back and is settled stands in order, under the names of the jobs
  pub in_order_of : {A : Type 0} (names : List Txn) (n : ℕ) (tickets : List Ticket) (rows : List (Vec (Arrival X B) A)) (left : List (Arrival X B)) (lefts : List Ticket) (order order' : List (Arrival X B))
      → n ≡ length names → tickets ≡ numbered names → map ticket_of left ≡ lefts → SharedOut tickets (tickets_of ticket_of rows) lefts
      → order ≡ somes (placed (placed (nones n) left) (all_of rows)) → names_of order' ≡ names_of order → names_of order' ≡ names
  in_order_of names n tickets rows left lefts order order' len ts ls shared o s =
      s ∙ (ap names_of o ∙ (ap (λ m. names_of (somes (placed (placed (nones m) left) (all_of rows)))) len ∙ arranged names tickets rows left lefts ts ls shared))

  pub as_many : (xs : List (Arrival X B)) (names : List Txn) → names_of xs ≡ names → length xs ≡ length names
  as_many xs names e = sym (length-map xs (λ (a : Arrival X B). a.name)) ∙ ap (length {A = Txn}) e

  -- the names and bodies of those that are left, after one more
  pub kept_snoc : (xs : List (Arrival X B)) (a : Arrival X B) → kept_of (xs ++ a ∷ []) ≡ kept_of xs ++ kept_row a.name (body_of a.fate)
  kept_snoc [] a = append-nil (kept_row a.name (body_of a.fate))
  kept_snoc (x ∷ xs) a = ap (λ l. kept_row x.name (body_of x.fate) ++ l) (kept_snoc xs a) ∙ sym (append_assoc (kept_row x.name (body_of x.fate)) (kept_of xs) (kept_row a.name (body_of a.fate)))

  -- one more that is left, and one more that is not
  pub kept_one : (xs : List (Arrival X B)) (a : Arrival X B) (body : DynBox X Global B) → body_of a.fate ≡ Some body → kept_of (xs ++ a ∷ []) ≡ kept_of xs ++ (a.name, body) ∷ []
  kept_one xs a body is = kept_snoc xs a ∙ ap (λ (o : Option (DynBox X Global B)). kept_of xs ++ kept_row a.name o) is

  pub kept_none : (xs : List (Arrival X B)) (a : Arrival X B) → body_of a.fate ≡ None → kept_of (xs ++ a ∷ []) ≡ kept_of xs
  kept_none xs a is = kept_snoc xs a ∙ (ap (λ (o : Option (DynBox X Global B)). kept_of xs ++ kept_row a.name o) is ∙ append-nil (kept_of xs))

  -- the names alone
  kept_names : (xs : List (Arrival X B)) → map (λ (k : Txn × DynBox X Global B). k.0) (kept_of xs) ≡ left_of (runs_of xs)
  kept_names [] = refl
  kept_names (x ∷ xs) =
      map-append (λ (k : Txn × DynBox X Global B). k.0) (kept_row x.name (body_of x.fate)) (kept_of xs)
      ∙ (ap (λ l. l ++ map (λ (k : Txn × DynBox X Global B). k.0) (kept_of xs)) (row x.name x.fate) ∙ ap (λ l. left_row x.name (answered_by x.fate) ++ l) (kept_names xs))
    where
      row : (t : Txn) (fate : Fate X B) → map (λ (k : Txn × DynBox X Global B). k.0) (kept_row t (body_of fate)) ≡ left_row t (answered_by fate)
      row t (Left body) = refl
      row t (Called answered waits) = refl

  pub names_left : {E : Type 0} (name : E → Txn) (body : E → DynBox X Global B) (left : List E) (xs : List (Arrival X B)) → map (λ x. (name x, body x)) left ≡ kept_of xs → map name left ≡ left_of (runs_of xs)
  names_left {E} name body left xs is = names left ∙ (ap (map (λ (k : Txn × DynBox X Global B). k.0)) is ∙ kept_names xs)
    where
      names : (all : List E) → map name all ≡ map (λ (k : Txn × DynBox X Global B). k.0) (map (λ x. (name x, body x)) all)
      names [] = refl
      names (x ∷ all) = ap (λ l. name x ∷ l) (names all)
