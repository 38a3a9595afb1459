-- A run by a client stands in a history that agrees with the client's list.
use Rattle.std.proofs.Common.{◌≡◌, ℕ, zero, suc, ◌<◌, ◌≤◌, ◌⊎◌, Bool, true, List, [], ◌∷◌, ◌++◌, map, reverse, length, take, slice_get, refl, sym, ◌∙◌, ap, subst, Some, inl, inr, arith}
use Rattle.std.specs.Prelude.{Result}
use Rattle.std.proofs.Math.Seq.{take-suc}
use Rattle.std.proofs.lemmas.Bool.{and_from}
use Rattle.std.proofs.lemmas.List.{append-nil, reverse-append, reverse-reverse, map-append, take_all}
use Rattle.std.proofs.lemmas.Option.{slice_get_cases, slice_get_within, get_or_from_slice_get}
use Rattle.asset_names.specs.declared.replies.Fault.{Fault}
use Rattle.asset_names.specs.Steps.{Entry}
use Rattle.asset_audit.specs.Audited.{Call, HasNumber, AreGoodBelow}
use Rattle.asset_audit.proofs.Places.{there_take}
use Rattle.asset_models.specs.declared.parts.ModelEnd.{ModelEnd}
use Rattle.asset_models.specs.Courses.{Course, IsRun}
use Rattle.asset_models.specs.Clients.{entry_of}
use Rattle.asset_model_laws.specs.Amid.{IsAmid}
use Rattle.asset_model_laws.specs.Clients.{AgreesWith, OthersPass}
use Rattle.asset_model_laws.proofs.RunAmid.{calls_grow, run_shifts}

-- one more entry of another on top
pub other_on_top : (test : Entry → Bool) (old calls new : List Entry) (entry : Entry) → test entry ≡ true → IsAmid test old calls new → IsAmid test old calls (entry ∷ new)
unfolding IsAmid
other_on_top test old [] new entry passes amid = (entry ∷ amid.0, ap (λ (some : List Entry). entry ∷ some) amid.1, and_from _ _ passes amid.2)
other_on_top test old (call ∷ calls) new entry passes amid =
    let only = amid.1 in
    (amid.0, (entry ∷ only.0, ap (λ (some : List Entry). entry ∷ some) only.1, and_from _ _ passes only.2), amid.2)

-- the calls up to a place, and the entries
unfoldable pub calls_to : List Call → ℕ → List Entry
calls_to list n = reverse (map entry_of (take n list))

last_taken : {X : Type 0} (xs : List X) (n : ℕ) (x : X) → slice_get xs n ≡ Some x → take (suc n) xs ≡ take n xs ++ x ∷ []
last_taken xs n x at = take-suc xs n x (slice_get_within xs n x at) ∙ ap (λ y. take n xs ++ y ∷ []) (get_or_from_slice_get xs n x x at)

unfoldable pub entries_to : List Entry → ℕ → List Entry
entries_to log m = reverse (take m log)

pub one_entry : (log : List Entry) (m : ℕ) (entry : Entry) → slice_get log m ≡ Some entry → entries_to log (suc m) ≡ entry ∷ entries_to log m
unfolding entries_to
one_entry log m entry at = ap reverse (last_taken log m entry at) ∙ reverse-append (take m log) (entry ∷ [])

pub one_call : (list : List Call) (n : ℕ) (call : Call) → slice_get list n ≡ Some call → calls_to list (suc n) ≡ entry_of call ∷ calls_to list n
unfolding calls_to
one_call list n call at =
    ap (λ (some : List Call). reverse (map entry_of some)) (last_taken list n call at)
    ∙ ap reverse (map-append entry_of (take n list) (call ∷ []))
    ∙ reverse-append (map entry_of (take n list)) (entry_of call ∷ [])

-- one number is below another or not
pub order : (k n : ℕ) → (k < n) ⊎ (n ≤ k)
order zero zero = inr (omega arith)
order zero (suc n) = inl (omega arith)
order (suc k) zero = inr (omega arith)
order (suc k) (suc n) = elim (order k n) [ inl lt ↦ inl (omega (arith, lt)) | inr le ↦ inr (omega (arith, le)) ]

pub found : {X : Type 0} (xs : List X) (n : ℕ) → n < length xs → (x : X) × (slice_get xs n ≡ Some x)
found xs n within = elim (slice_get_cases xs n).1 [ inl there ↦ (there.0, there.2) | inr past ↦ absurd (omega (arith, within, past.0)) ]

one_value : {X : Type 0} (a b : X) → Some a ≡ Some b → a ≡ b
one_value a b e = cc

pub same_number : (list : List Call) (k n : ℕ) (one other : Call) → k ≡ n → slice_get list k ≡ Some one → slice_get list n ≡ Some other → one.0 ≡ other.0
same_number list k n one other same at there = ap (λ (call : Call). call.0) (one_value one other (sym at ∙ ap (λ (i : ℕ). slice_get list i) same ∙ there))

-- the calls before the place have lower numbers, and the others do not
pub record IsAt (list : List Call) (n m : ℕ) : Type 0 where
  pub below : (k : ℕ) (call : Call) → k < n → slice_get list k ≡ Some call → call.0 < m
  pub above : (k : ℕ) (call : Call) → n ≤ k → slice_get list k ≡ Some call → m ≤ call.0

pub not_listed : (list : List Call) (n m : ℕ) → IsAt list n (suc m) → ((k : ℕ) (call : Call) → k < n → slice_get list k ≡ Some call → call.0 < m) → ¬ HasNumber list m
not_listed list n m at below has = elim (order has.0 n) [
  | inl lt ↦ let lower : has.1.0 < m = below has.0 has.1 lt has.2 in omega (arith, lower, has.3)
  | inr le ↦ let higher : suc m ≤ has.1.0 = at.above has.0 has.1 le has.2 in omega (arith, higher, has.3)
]

-- of a list that agrees, at a call with the number m
pub record IsGoodAt (log : List Entry) (list : List Call) (n : ℕ) (call : Call) : Type 0 where
  pub rises : (k : ℕ) (one : Call) → k < n → slice_get list k ≡ Some one → one.0 < call.0
  pub entry : slice_get log call.0 ≡ Some (entry_of call)

pub good_at : (log : List Entry) (earlier : List (List Call)) (list : List Call) → AreGoodBelow log earlier list (length list) → (n : ℕ) (call : Call) → slice_get list n ≡ Some call → IsGoodAt log list n call
good_at log earlier list good n call at =
    let is = good n call (slice_get_within list n call at) at in
    record { rises = λ k one lt there. is.rises k one (there_take n list k one lt there); entry = is.entry }

-- before a call, and at it
pub before_call : (log : List Entry) (list : List Call) (n m : ℕ) (call : Call) → slice_get list n ≡ Some call → IsGoodAt log list n call → call.0 ≡ m → IsAt list (suc n) (suc m) → IsAt list n m
before_call log list n m call there good is at = record {
  below = λ k one lt here. let lower : one.0 < call.0 = good.rises k one lt here in omega (arith, lower, is);
  above = λ k one le here. elim (order n k) [
    | inl lt ↦ let higher : suc m ≤ one.0 = at.above k one (omega (arith, lt)) here in omega (arith, higher)
    | inr ge ↦ let same : one.0 ≡ call.0 = same_number list k n one call (omega (arith, le, ge)) here there in omega (arith, same, is)
  ];
}

pub below_call : (log : List Entry) (list : List Call) (n m : ℕ) (call : Call) → slice_get list n ≡ Some call → IsGoodAt log list n call → call.0 < m → (k : ℕ) (one : Call) → k < suc n → slice_get list k ≡ Some one → one.0 < m
below_call log list n m call there good is k one lt here = elim (order k n) [
  | inl less ↦ let lower : one.0 < call.0 = good.rises k one less here in omega (arith, lower, is)
  | inr ge ↦ let same : one.0 ≡ call.0 = same_number list k n one call (omega (arith, lt, ge)) here there in omega (arith, same, is)
]

pub skipped : (list : List Call) (n m : ℕ) → IsAt list n (suc m) → ((k : ℕ) (call : Call) → k < n → slice_get list k ≡ Some call → call.0 < m) → IsAt list n m
skipped list n m at below = record { below = below; above = λ k call le there. let higher : suc m ≤ call.0 = at.above k call le there in omega (arith, higher) }

-- an entry of another on top
pass_on : (test : Entry → Bool) (log : List Entry) (list : List Call) (n m : ℕ) (entry : Entry) → slice_get log m ≡ Some entry → test entry ≡ true → IsAmid test [] (calls_to list n) (entries_to log m) → IsAmid test [] (calls_to list n) (entries_to log (suc m))
pass_on test log list n m entry at passes amid = subst (λ (some : List Entry). IsAmid test [] (calls_to list n) some) (sym (one_entry log m entry at)) (other_on_top test [] (calls_to list n) (entries_to log m) entry passes amid)

-- a call on top
call_on : (test : Entry → Bool) (log : List Entry) (list : List Call) (n m : ℕ) (call : Call) → slice_get list n ≡ Some call → slice_get log m ≡ Some (entry_of call) → IsAmid test [] (calls_to list n) (entries_to log m) → IsAmid test [] (calls_to list (suc n)) (entries_to log (suc m))
unfolding IsAmid
call_on test log list n m call there at amid =
    subst (λ (calls : List Entry). IsAmid test [] calls (entries_to log (suc m))) (sym (one_call list n call there))
    (subst (λ (some : List Entry). IsAmid test [] (entry_of call ∷ calls_to list n) some) (sym (one_entry log m (entry_of call) at)) (entries_to log m, ([], refl, refl), amid))

pub none_below : (list : List Call) (n : ℕ) → IsAt list n 0 → n ≤ length list → n ≡ 0
none_below list zero at within = refl
none_below list (suc n) at within = let here = found list n (omega arith) in let lower : here.0.0 < 0 = at.below n here.0 (omega arith) here.1 in absurd (omega (arith, lower))

amid_start : (test : Entry → Bool) (log : List Entry) (list : List Call) (n : ℕ) → n ≡ 0 → IsAmid test [] (calls_to list n) (entries_to log 0)
unfolding IsAmid calls_to entries_to
amid_start test log list n none = rw none ([], refl, refl)

amid_to : (test : Entry → Bool) (log : List Entry) (earlier : List (List Call)) (list : List Call) → AreGoodBelow log earlier list (length list)
    → ((n : ℕ) (entry : Entry) → slice_get log n ≡ Some entry → ¬ HasNumber list n → test entry ≡ true)
    → (m n : ℕ) → m ≤ length log → n ≤ length list → IsAt list n m → IsAmid test [] (calls_to list n) (entries_to log m)
amid_to test log earlier list good pass zero n within short at = amid_start test log list n (none_below list n at short)
amid_to test log earlier list good pass (suc m) zero within short at =
    let entry = found log m (omega arith) in
    let below : (k : ℕ) (call : Call) → k < 0 → slice_get list k ≡ Some call → call.0 < m = λ k call lt there. absurd (omega (arith, lt)) in
    pass_on test log list 0 m entry.0 entry.1 (pass m entry.0 entry.1 (not_listed list 0 m at below)) (amid_to test log earlier list good pass m 0 (omega arith) short (skipped list 0 m at below))
amid_to test log earlier list good pass (suc m) (suc n) within short at =
    let call = found list n (omega arith) in
    let is = good_at log earlier list good n call.0 call.1 in
    let upper : call.0.0 < suc m = at.below n call.0 (omega arith) call.1 in
    elim (order call.0.0 m) [
      | inl lt ↦
          let entry = found log m (omega arith) in
          let below = below_call log list n m call.0 call.1 is lt in
          pass_on test log list (suc n) m entry.0 entry.1 (pass m entry.0 entry.1 (not_listed list (suc n) m at below)) (amid_to test log earlier list good pass m (suc n) (omega arith) short (skipped list (suc n) m at below))
      | inr ge ↦
          let here : call.0.0 ≡ m = omega (arith, upper, ge) in
          call_on test log list n m call.0 call.1 (subst (λ (i : ℕ). slice_get log i ≡ Some (entry_of call.0)) here is.entry)
          (amid_to test log earlier list good pass m n (omega arith) (omega arith) (before_call log list n m call.0 call.1 is here at))
    ]

-- all calls and all entries
amid_all : (test : Entry → Bool) (entries : List Entry) (earlier : List (List Call)) (list : List Call) → AgreesWith entries earlier list → OthersPass test entries list → IsAmid test [] (reverse (map entry_of list)) entries
unfolding calls_to entries_to
amid_all test entries earlier list good pass =
    subst (λ (calls : List Entry). IsAmid test [] calls entries) whole_list (subst (λ (some : List Entry). IsAmid test [] (calls_to list (length list)) some) whole_log
    (amid_to test (reverse entries) earlier list good pass (length (reverse entries)) (length list) (omega arith) (omega arith) start)) where
      whole_list : calls_to list (length list) ≡ reverse (map entry_of list)
      whole_list = ap (λ (some : List Call). reverse (map entry_of some)) (take_all (length list) list (omega arith))

      whole_log : entries_to (reverse entries) (length (reverse entries)) ≡ entries
      whole_log = ap reverse (take_all (length (reverse entries)) (reverse entries) (omega arith)) ∙ reverse-reverse entries

      start : IsAt list (length list) (length (reverse entries))
      start = record {
        below = λ k call lt there. slice_get_within (reverse entries) call.0 (entry_of call) (good_at (reverse entries) earlier list good k call there).entry;
        above = λ k call le there. let inside : k < length list = slice_get_within list k call there in absurd (omega (arith, inside, le));
      }

-- the later of the calls, since some entries
amid_since : (test : Entry → Bool) (calls made new : List Entry) → IsAmid test [] (calls ++ made) new → (old : List Entry) × IsAmid test old calls new
unfolding IsAmid
amid_since test [] made new amid = (new, ([], refl, refl))
amid_since test (call ∷ calls) made new amid = let deeper = amid_since test calls made amid.0 amid.2 in (deeper.0, (amid.0, amid.1, deeper.1))

pub client_amid : (course : Course) (entries : List Entry) (earlier : List (List Call)) (before later : List Call) (result : Result ModelEnd Fault) (others : Entry → Bool)
    → AgreesWith entries earlier later → OthersPass others entries later → IsRun course (reverse (map entry_of before)) (reverse (map entry_of later)) result
    → (calls : List Entry) × (old : List Entry) × (reverse (map entry_of later) ≡ calls ++ reverse (map entry_of before)) × IsRun course [] calls result × IsAmid others old calls entries
client_amid course entries earlier before later result others good pass run =
    let made : List Entry = reverse (map entry_of before) in
    let grown = calls_grow course made (reverse (map entry_of later)) result run in
    let shifted = run_shifts course made [] grown.0 result (subst (λ (some : List Entry). IsRun course made some result) grown.1 run) in
    let since = amid_since others grown.0 made entries (subst (λ (some : List Entry). IsAmid others [] some entries) grown.1 (amid_all others entries earlier later good pass)) in
    (grown.0, since.0, grown.1, subst (λ (some : List Entry). IsRun course [] some result) (append-nil grown.0) shifted, since.1)
