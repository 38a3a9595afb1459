-- How many calls good sessions have been told.
use Rattle.std.proofs.Common.{◌≡◌, ℕ, zero, suc, ◌+◌, ◌<◌, ◌≤◌, List, [], ◌∷◌, length, take, slice_get, Some, sym, ap, ◌∙◌, subst, arith}
use Rattle.std.proofs.lemmas.List.{take_all}
use Rattle.std.proofs.lemmas.Option.{slice_get_within}
use Rattle.asset_names.specs.Steps.{Entry}
use Rattle.asset_audit.specs.Audited.{Call, Rises, HasNumber, AllRise, AnyHas, ListsAreGood, HasEach, told_by}
use Rattle.asset_audit.proofs.Places.{take_there, take_within, there_take, good_rises}
use Rattle.asset_audit.proofs.Pigeons.{Apart, told_fits, told_all}

-- the lists of good sessions rise
pub lists_rise : (log : List Entry) (ss : List (List Call)) (k : ℕ) → ListsAreGood log ss k → AllRise (take k ss)
lists_rise log ss k good i l e =
    subst Rises (take_all (length l) l (omega arith)) (good_rises log (take i ss) l (length l) (good i l (take_within k ss i l e) (take_there k ss i l e)))

-- they have no number in common
lists_apart : (log : List Entry) (ss : List (List Call)) (k : ℕ) → ListsAreGood log ss k → Apart (take k ss)
lists_apart log ss k good = record {
  apart = λ i j a b q lt ea eb in_a in_b.
      (good j b (take_within k ss j b eb) (take_there k ss j b eb) in_b.0 in_b.1 (slice_get_within b in_b.0 in_b.1 in_b.2) in_b.2).fresh
      (i, a, there_take j ss i a lt (take_there k ss i a ea), subst (HasNumber a) (sym in_b.3) in_a);
}

-- and their numbers are those of entries
lists_within : (log : List Entry) (ss : List (List Call)) (k : ℕ) → ListsAreGood log ss k → (q : ℕ) → AnyHas (take k ss) q → q < length log
lists_within log ss k good q has =
    let list = has.1 in
    let there = has.3 in
    let entry = (good has.0 list (take_within k ss has.0 list has.2) (take_there k ss has.0 list has.2) there.0 there.1 (slice_get_within list there.0 there.1 there.2) there.2).entry in
    subst (λ n. n < length log) there.3 (slice_get_within log there.1.0 (there.1.1, there.1.2) entry)

-- so good sessions have been told no more than the entries
pub good_told : (log : List Entry) (ss : List (List Call)) (k : ℕ) → ListsAreGood log ss k → told_by (take k ss) ≤ length log
good_told log ss k good = told_fits (take k ss) (length log) (lists_rise log ss k good) (lists_apart log ss k good) (lists_within log ss k good)

-- and if they have been told as many, each entry
pub good_each : (log : List Entry) (ss : List (List Call)) → ListsAreGood log ss (length ss) → told_by ss ≡ length log → HasEach log ss
good_each log ss good whole n within =
    let all : take (length ss) ss ≡ ss = take_all (length ss) ss (omega arith) in
    subst (λ list. AnyHas list n) all (told_all (take (length ss) ss) (length log) (lists_rise log ss (length ss) good) (lists_apart log ss (length ss) good) (lists_within log ss (length ss) good) (ap told_by all ∙ whole) n within)

-- what one session more has been told
pub told_more : (ss : List (List Call)) (k : ℕ) (l : List Call) → slice_get ss k ≡ Some l → told_by (take (suc k) ss) ≡ told_by (take k ss) + length l
told_more [] k l e = cc
told_more (m ∷ ss) zero l e = let same : m ≡ l = cc in omega (arith, ap length same)
told_more (m ∷ ss) (suc k) l e = omega (arith, told_more ss k l e)

pub told_next : (ss : List (List Call)) (k : ℕ) (l : List Call) → slice_get ss k ≡ Some l → told_by (take (k + 1) ss) ≡ told_by (take k ss) + length l
told_next ss k l e = subst (λ n. told_by (take n ss) ≡ told_by (take k ss) + length l) next (told_more ss k l e) where
  next : suc k ≡ k + 1
  next = omega arith

-- when all sessions were looked at
pub all_told : (ss : List (List Call)) (k : ℕ) → length ss ≤ k → told_by (take k ss) ≡ told_by ss
all_told ss k most = ap told_by (take_all k ss most)
