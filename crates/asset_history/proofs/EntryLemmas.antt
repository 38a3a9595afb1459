-- The entry at an index, and the entries before it.
use Rattle.std.proofs.Common.{◌≡◌, ℕ, ◌+◌, ◌<◌, List, [], ◌∷◌, ◌++◌, length, drop, reverse, sym, ap, ◌∙◌, arith, ◌⊎◌, inl, inr, Some}
use Rattle.std.specs.Prelude.{slice_get}
use Rattle.std.proofs.lemmas.Bool.{cases_eq}
use Rattle.std.proofs.lemmas.List.{reverse-append, reverse-reverse, length-reverse, length_push, get_or_push, get_or_append_left, take_all}
use Rattle.std.proofs.lemmas.Option.{slice_get_cases, slice_get-get_or, slice_get_within, get_or_from_slice_get}
use Rattle.asset_names.specs.declared.replies.Outcome.TheVariants.{Answer}
use Rattle.asset_names.specs.Steps.{Opening, Entry, applied}
use Rattle.asset_names.specs.Answers.{answer, IsLegal}
use Rattle.asset_entries.proofs.EntryLemmas.{next_entry, between}
use Rattle.asset_history.specs.Kept.{before}

-- ---- the newest entry and an older one

pushed : (entry : Entry) (older : List Entry) → reverse (entry ∷ older) ≡ reverse older ++ entry ∷ []
pushed entry older = reverse-append (entry ∷ []) older

pub newest_at : (entry : Entry) (older : List Entry) → slice_get (reverse (entry ∷ older)) (length older) ≡ Some entry
newest_at entry older =
    rw (pushed entry older)
    (slice_get-get_or (reverse older ++ entry ∷ []) (length older) entry (omega (arith, length_push (reverse older) entry, length-reverse older))
    ∙ ap Some (get_or_push (reverse older) entry entry (length older) (length-reverse older)))

pub older_at : (entry : Entry) (older : List Entry) (i : ℕ) → i < length older → slice_get (reverse (entry ∷ older)) i ≡ slice_get (reverse older) i
older_at entry older i below =
    let within : i < length (reverse older) = omega (arith, length-reverse older) in
    rw (pushed entry older)
    (slice_get-get_or (reverse older ++ entry ∷ []) i entry (omega (arith, length_push (reverse older) entry)) ∙ ap Some (get_or_append_left (reverse older) (entry ∷ []) entry i within)
    ∙ sym (slice_get-get_or (reverse older) i entry within))

pub at_cases : (entry : Entry) (older : List Entry) (i : ℕ) (one : Entry) → slice_get (reverse (entry ∷ older)) i ≡ Some one
    → ((i ≡ length older) × (one ≡ entry)) ⊎ ((i < length older) × (slice_get (reverse older) i ≡ Some one))
at_cases entry older i one at =
    let within : i < length (entry ∷ older) = omega (arith, slice_get_within (reverse (entry ∷ older)) i one at, length-reverse (entry ∷ older)) in
    elim (cases_eq i (length older)) [
      | inl last ↦
          let newest : slice_get (reverse (entry ∷ older)) i ≡ Some entry = ap (slice_get (reverse (entry ∷ older))) last ∙ newest_at entry older in
          inl (last, sym (get_or_from_slice_get (reverse (entry ∷ older)) i one one at) ∙ get_or_from_slice_get (reverse (entry ∷ older)) i entry one newest)
      | inr other ↦
          let below : i < length older = omega (arith, within) in
          inr (below, sym (older_at entry older i below) ∙ at)
    ]

-- ---- the entries before an index

pub before_next : (all : List Entry) (i : ℕ) (entry : Entry) → slice_get (reverse all) i ≡ Some entry → before all (i + 1) ≡ entry ∷ before all i
before_next all i entry at = next_entry (reverse all) i entry at

pub before_all : (all : List Entry) (i : ℕ) → length all ≡ i → before all i ≡ all
before_all all i is = ap reverse (take_all i (reverse all) (omega (arith, length-reverse all))) ∙ reverse-reverse all

-- all entries but the newest one
pub before_newest : (entry : Entry) (older : List Entry) → before (entry ∷ older) (length older) ≡ older
before_newest entry older =
    let all = entry ∷ older in
    let whole : entry ∷ before all (length older) ≡ all = sym (before_next all (length older) entry (newest_at entry older)) ∙ before_all all (length older + 1) (omega arith) in
    ap tail whole where
      tail : List Entry → List Entry
      tail [] = []
      tail (x ∷ xs) = xs

-- ---- a legal history

legal_after : (opening : Opening) (newer : List Entry) (entry : Entry) (older : List Entry) → IsLegal opening (newer ++ entry ∷ older) → (answer opening (applied older) entry.0 ≡ Answer entry.1) × IsLegal opening older
unfolding IsLegal
legal_after opening [] entry older legal = legal
legal_after opening (x ∷ newer) entry older legal = legal_after opening newer entry older legal.1

-- an entry is answered after those before it
pub legal_at : (opening : Opening) (all : List Entry) (i : ℕ) (entry : Entry) → IsLegal opening all → slice_get (reverse all) i ≡ Some entry → (answer opening (applied (before all i)) entry.0 ≡ Answer entry.1) × IsLegal opening (before all i)
legal_at opening all i entry legal at = legal_after opening (reverse (drop (i + 1) (reverse all))) entry (before all i) (rw (between all i entry at) legal)

-- the newest entry and the others
pub split_newest : (all : List Entry) (n : ℕ) → length all ≡ n + 1 → (entry : Entry) × (slice_get (reverse all) n ≡ Some entry) × (all ≡ entry ∷ before all n)
split_newest all n is = elim (slice_get_cases (reverse all) n).1 [
  | inl here ↦ (here.0, here.2, sym (before_all all (n + 1) is) ∙ before_next all n here.0 here.2)
  | inr past ↦ absurd (omega (arith, past.0, length-reverse all))
]
