-- A run by a client stands in the history up to its last call, if a test is asked only of what stands between its calls.
use Rattle.std.proofs.Common.{◌≡◌, ℕ, zero, suc, ◌+◌, ◌<◌, ◌≤◌, Bool, true, List, [], ◌∷◌, ◌++◌, map, reverse, length, take, drop, slice_get, refl, sym, ◌∙◌, ap, subst, Some, inl, inr, arith}
use Rattle.std.specs.Prelude.{Result}
use Rattle.std.proofs.lemmas.List.{append-nil, append_cancel_right, reverse-append, reverse-reverse, length-append, length-map, length-reverse, take_all, take-map, take-append-drop}
use Rattle.std.proofs.lemmas.Option.{slice_get_within}
use Rattle.asset_names.specs.declared.replies.Fault.{Fault}
use Rattle.asset_names.specs.Steps.{Opening, Entry}
use Rattle.asset_names.specs.Answers.{IsLegal}
use Rattle.asset_audit.specs.Audited.{Call, HasNumber, AreGoodBelow}
use Rattle.asset_laws.proofs.GroupLemmas.{legal_rest}
use Rattle.asset_models.specs.declared.parts.ModelEnd.{ModelEnd}
use Rattle.asset_models.specs.Courses.{Course, IsRun}
use Rattle.asset_models.specs.Clients.{entry_of}
use Rattle.asset_model_laws.specs.Amid.{IsAmid}
use Rattle.asset_model_laws.specs.Clients.{AgreesWith, IsBetween, OthersBetweenPass}
use Rattle.asset_model_laws.proofs.RunAmid.{calls_grow, run_shifts}
use Rattle.asset_model_laws.proofs.ClientLaw.{IsAt, calls_to, entries_to, one_call, one_entry, other_on_top, order, found, not_listed, good_at, before_call, below_call, skipped, none_below}

-- the calls from a place on stand in the entries below a number, since some entries
record Since (test : Entry → Bool) (log : List Entry) (list : List Call) (from n m : ℕ) : Type 0 where
  pub calls : List Entry
  pub old : List Entry
  pub same : calls_to list n ≡ calls ++ calls_to list from
  pub amid : IsAmid test old calls (entries_to log m)

since_here : (test : Entry → Bool) (log : List Entry) (list : List Call) (from n m : ℕ) → n ≡ from → Since test log list from n m
unfolding IsAmid
since_here test log list from n m here = record { calls = []; old = entries_to log m; same = ap (calls_to list) here; amid = ([], refl, refl) }

-- an entry of another on top
since_other : (test : Entry → Bool) (log : List Entry) (list : List Call) (from n m : ℕ) (entry : Entry) → slice_get log m ≡ Some entry → test entry ≡ true → Since test log list from n m → Since test log list from n (suc m)
since_other test log list from n m entry at passes since = record {
  calls = since.calls;
  old = since.old;
  same = since.same;
  amid = subst (λ (some : List Entry). IsAmid test since.old since.calls some) (sym (one_entry log m entry at)) (other_on_top test since.old since.calls (entries_to log m) entry passes since.amid);
}

-- a call on top
since_call : (test : Entry → Bool) (log : List Entry) (list : List Call) (from n m : ℕ) (call : Call) → slice_get list n ≡ Some call → slice_get log m ≡ Some (entry_of call) → Since test log list from n m → Since test log list from (suc n) (suc m)
unfolding IsAmid
since_call test log list from n m call there at since = record {
  calls = entry_of call ∷ since.calls;
  old = since.old;
  same = one_call list n call there ∙ ap (λ (some : List Entry). entry_of call ∷ some) since.same;
  amid = subst (λ (some : List Entry). IsAmid test since.old (entry_of call ∷ since.calls) some) (sym (one_entry log m (entry_of call) at)) (entries_to log m, ([], refl, refl), since.amid);
}

-- a call of the run has this number or a higher one
Ahead : List Call → ℕ → ℕ → Type 0
Ahead list from m = (j : ℕ) × (call : Call) × (from ≤ j) × (slice_get list j ≡ Some call) × (m ≤ call.0)

since_to : (test : Entry → Bool) (log : List Entry) (earlier : List (List Call)) (list : List Call) → AreGoodBelow log earlier list (length list) → (from : ℕ)
    → ((n : ℕ) (entry : Entry) → slice_get log n ≡ Some entry → ¬ HasNumber list n → IsBetween list from n → test entry ≡ true)
    → (m n d : ℕ) → m ≤ length log → n ≤ length list → n ≡ from + d → IsAt list n m → Ahead list from m → Since test log list from n m
unfolding Ahead
since_to test log earlier list good from pass m n zero within short is at ahead = since_here test log list from n m (omega (arith, is))
since_to test log earlier list good from pass zero n (suc d) within short is at ahead = let none = none_below list n at short in absurd (omega (arith, none, is))
since_to test log earlier list good from pass (suc m) zero (suc d) within short is at ahead = absurd (omega (arith, is))
since_to test log earlier list good from pass (suc m) (suc n) (suc d) within short is at ahead =
    let call = found list n (omega arith) in
    let right = good_at log earlier list good n call.0 call.1 in
    let upper : call.0.0 < suc m = at.below n call.0 (omega arith) call.1 in
    let first : from ≤ n = omega (arith, is) in
    elim (order call.0.0 m) [
      | inl lt ↦
          let entry = found log m (omega arith) in
          let below = below_call log list n m call.0 call.1 right lt in
          let higher : suc m ≤ ahead.1.0 = ahead.4 in
          let passes = pass m entry.0 entry.1 (not_listed list (suc n) m at below) ((n, call.0, first, call.1, lt), (ahead.0, ahead.1, ahead.2, ahead.3, omega (arith, higher))) in
          since_other test log list from (suc n) m entry.0 entry.1 passes
          (since_to test log earlier list good from pass m (suc n) (suc d) (omega arith) short is (skipped list (suc n) m at below) (ahead.0, ahead.1, ahead.2, ahead.3, omega (arith, higher)))
      | inr ge ↦
          let here : call.0.0 ≡ m = omega (arith, upper, ge) in
          since_call test log list from n m call.0 call.1 (subst (λ (i : ℕ). slice_get log i ≡ Some (entry_of call.0)) here right.entry)
          (since_to test log earlier list good from pass m n d (omega arith) (omega arith) (omega (arith, is)) (before_call log list n m call.0 call.1 right here at) (n, call.0, first, call.1, ge))
    ]

-- up to the last call
record UpTo (test : Entry → Bool) (log : List Entry) (list : List Call) (from : ℕ) : Type 0 where
  pub number : ℕ
  pub since : Since test log list from (length list) number

up_to : (test : Entry → Bool) (log : List Entry) (earlier : List (List Call)) (list : List Call) → AreGoodBelow log earlier list (length list) → (from : ℕ)
    → ((n : ℕ) (entry : Entry) → slice_get log n ≡ Some entry → ¬ HasNumber list n → IsBetween list from n → test entry ≡ true)
    → (n d : ℕ) → length list ≡ n → n ≡ from + d → UpTo test log list from
unfolding Ahead
up_to test log earlier list good from pass n zero long is = record { number = length log; since = since_here test log list from (length list) (length log) (omega (arith, long, is)) }
up_to test log earlier list good from pass zero (suc d) long is = absurd (omega (arith, is))
up_to test log earlier list good from pass (suc n) (suc d) long is =
    let call = found list n (omega (arith, long)) in
    let right = good_at log earlier list good n call.0 call.1 in
    let lower : call.0.0 < length log = slice_get_within log call.0.0 (entry_of call.0) right.entry in
    let top : IsAt list (suc n) (suc call.0.0) = record {
      below = below_call log list n (suc call.0.0) call.0 call.1 right (omega arith);
      above = λ k one le there. let inside : k < length list = slice_get_within list k one there in absurd (omega (arith, inside, le, long));
    } in
    let all = since_call test log list from n call.0.0 call.0 call.1 right.entry
    (since_to test log earlier list good from pass call.0.0 n d (omega (arith, lower)) (omega (arith, long)) (omega (arith, is)) (before_call log list n call.0.0 call.0 call.1 right refl top) (n, call.0, omega (arith, is), call.1, omega arith)) in
    record { number = suc call.0.0; since = subst (λ (i : ℕ). Since test log list from i (suc call.0.0)) (sym long) all }

take_front : {X : Type 0} (xs ys zs : List X) → zs ≡ xs ++ ys → take (length xs) zs ≡ xs
take_front [] ys zs is = refl
take_front (x ∷ xs) ys zs is = ap (λ l. take (suc (length xs)) l) is ∙ ap (λ l. x ∷ l) (take_front xs ys (xs ++ ys) refl)

-- the calls that were made before are the first of the list
made_first : (before later : List Call) (newer : List Entry) → reverse (map entry_of later) ≡ newer ++ reverse (map entry_of before) → calls_to later (length before) ≡ reverse (map entry_of before)
unfolding calls_to
made_first before later newer grown =
    let turned : map entry_of later ≡ map entry_of before ++ reverse newer =
    sym (reverse-reverse (map entry_of later)) ∙ ap reverse grown ∙ reverse-append newer (reverse (map entry_of before)) ∙ ap (λ (some : List Entry). some ++ reverse newer) (reverse-reverse (map entry_of before)) in
    let front : take (length (map entry_of before)) (map entry_of later) ≡ map entry_of before = take_front (map entry_of before) (reverse newer) (map entry_of later) turned in
    let taken : map entry_of (take (length before) later) ≡ map entry_of before =
    sym (take-map entry_of (length before) later) ∙ ap (λ (n : ℕ). take n (map entry_of later)) (sym (length-map before entry_of)) ∙ front in
    ap reverse taken

more_calls : (before later : List Call) (newer : List Entry) → reverse (map entry_of later) ≡ newer ++ reverse (map entry_of before) → length later ≡ length before + length newer
more_calls before later newer grown = omega (
  arith,
  ap (length {A = Entry}) grown,
  length-append newer (reverse (map entry_of before)),
  length-reverse (map entry_of before),
  length-reverse (map entry_of later),
  length-map before entry_of,
  length-map later entry_of,
)

pub client_amid_between : (course : Course) (entries : List Entry) (earlier : List (List Call)) (before later : List Call) (result : Result ModelEnd Fault) (others : Entry → Bool)
    → AgreesWith entries earlier later → OthersBetweenPass others entries later (length before) → IsRun course (reverse (map entry_of before)) (reverse (map entry_of later)) result
    → (calls : List Entry) × (old : List Entry) × (upto : List Entry) × (rest : List Entry) × (entries ≡ rest ++ upto) × (reverse (map entry_of later) ≡ calls ++ reverse (map entry_of before)) × IsRun course [] calls result × IsAmid others old calls upto × ((opening : Opening) → IsLegal opening entries → IsLegal opening upto)
unfolding calls_to entries_to
client_amid_between course entries earlier before later result others good pass run =
    let made : List Entry = reverse (map entry_of before) in
    let log : List Entry = reverse entries in
    let grown = calls_grow course made (reverse (map entry_of later)) result run in
    let shifted = run_shifts course made [] grown.0 result (subst (λ (some : List Entry). IsRun course made some result) grown.1 run) in
    let last = up_to others log earlier later good (length before) pass (length later) (length grown.0) refl (more_calls before later grown.0 grown.1) in
    let same : last.since.calls ≡ grown.0 =
    append_cancel_right last.since.calls grown.0 made
    (ap (λ (some : List Entry). last.since.calls ++ some) (sym (made_first before later grown.0 grown.1)) ∙ sym last.since.same ∙ ap (λ (some : List Call). reverse (map entry_of some)) (take_all (length later) later (omega arith)) ∙ grown.1) in
    let upto : List Entry = entries_to log last.number in
    let rest : List Entry = reverse (drop last.number log) in
    let split : entries ≡ rest ++ upto =
    sym (reverse-reverse entries) ∙ ap reverse (sym (take-append-drop last.number log)) ∙ reverse-append (take last.number log) (drop last.number log) in (
      grown.0,
      last.since.old,
      upto,
      rest,
      split,
      grown.1,
      subst (λ (some : List Entry). IsRun course [] some result) (append-nil grown.0) shifted,
      subst (λ (some : List Entry). IsAmid others last.since.old some upto) same last.since.amid,
      λ opening legal. legal_rest opening rest upto (rw split at legal),
    )
