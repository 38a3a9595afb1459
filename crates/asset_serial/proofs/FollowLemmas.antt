-- Entries that follow a history, some at a time.
use Rattle.std.proofs.Common.{◌≡◌, ℕ, ◌+◌, ◌<◌, List, [], ◌∷◌, ◌++◌, length, get_or, take, drop, reverse, refl, sym, ◌∙◌, ap, subst, arith, inl, inr, Some}
use Rattle.std.specs.Prelude.{flat_map, slice_get}
use Rattle.std.proofs.lemmas.List.{append-nil, append_assoc, length-append, length-reverse, reverse-append, take-append-drop, take_more}
use Rattle.std.proofs.lemmas.List.Concat.{flat_map-append}
use Rattle.std.proofs.lemmas.Option.{slice_get_cases}
use Rattle.asset_names.specs.declared.replies.Outcome.TheVariants.{Answer}
use Rattle.asset_names.specs.Steps.{Entry}
use Rattle.asset_names.specs.Answers.{IsLegal}
use Rattle.asset_laws.proofs.GroupLemmas.{legal_rest}
use Rattle.asset_entries.specs.Recorded.{Recorded, answer_to, with_entry}
use Rattle.asset_serial.specs.Following.{followed_by, CanFollow}

-- ---- nothing, one entry, and more
pub followed_none : (history : Recorded) → history ≡ followed_by history []
unfolding followed_by
followed_none history = refl

pub followed_one : (history : Recorded) (entry : Entry) → with_entry history entry.0 entry.1 ≡ followed_by history (entry ∷ [])
unfolding followed_by with_entry
followed_one history entry = refl

followed_more : (history : Recorded) (first then : List Entry) → followed_by (followed_by history first) then ≡ followed_by history (first ++ then)
unfolding followed_by
followed_more history first then =
    ap (λ (l : List Entry). record history { entries = l }) (sym (append_assoc (reverse then) (reverse first) history.entries) ∙ ap (λ l. l ++ history.entries) (sym (reverse-append first then)))

-- ---- the entry at an index
pub entry_here : (entries : List Entry) (index : ℕ) → index < length entries → (entry : Entry) × (slice_get (reverse entries) index ≡ Some entry)
entry_here entries index below =
    elim (slice_get_cases (reverse entries) index).1 [
      | inl here ↦ (here.0, here.2)
      | inr past ↦ absurd (omega (arith, past.0, below, length-reverse entries))
    ]

-- ---- what may follow
follows_first : (history : Recorded) (first then : List Entry) → CanFollow history (first ++ then) → CanFollow history first
follows_first history first then follows =
    let all : reverse (first ++ then) ++ history.entries ≡ reverse then ++ (reverse first ++ history.entries) = ap (λ l. l ++ history.entries) (reverse-append first then) ∙ append_assoc (reverse then) (reverse first) history.entries in
    record {
      legal = legal_rest history.opening (reverse then) (reverse first ++ history.entries) (subst (IsLegal history.opening) all follows.legal);
      room = omega (arith, length-append first then, follows.room);
    }

follows_then : (history : Recorded) (first then : List Entry) → CanFollow history (first ++ then) → CanFollow (followed_by history first) then
unfolding followed_by
follows_then history first then follows =
    let all : reverse (first ++ then) ++ history.entries ≡ reverse then ++ (reverse first ++ history.entries) = ap (λ l. l ++ history.entries) (reverse-append first then) ∙ append_assoc (reverse then) (reverse first) history.entries in
    record {
      legal = subst (IsLegal history.opening) all follows.legal;
      room = omega (arith, length-append first then, length-append (reverse first) history.entries, length-reverse first, follows.room);
    }

pub one_answered : (history : Recorded) (entry : Entry) → CanFollow history (entry ∷ []) → answer_to history entry.0 ≡ Answer entry.1
unfolding answer_to IsLegal
one_answered history entry follows = follows.legal.0

-- ---- one part after another
next_part : {X : Type 0} (f : X → List Entry) (xs : List X) (i : ℕ) (d : X) → i < length xs → flat_map f (take (i + 1) xs) ≡ flat_map f (take i xs) ++ f (get_or xs i d)
next_part f xs i d below =
    ap (flat_map f) (take_more xs i d below) ∙ flat_map-append f (take i xs) (get_or xs i d ∷ []) ∙ ap (λ l. flat_map f (take i xs) ++ l) (append-nil (f (get_or xs i d)))

pub part_follows : {X : Type 0} (f : X → List Entry) (history : Recorded) (xs : List X) (i : ℕ) (d : X) → i < length xs → CanFollow history (flat_map f xs) → CanFollow (followed_by history (flat_map f (take i xs))) (f (get_or xs i d))
part_follows f history xs i d below follows =
    let all : flat_map f xs ≡ flat_map f (take (i + 1) xs) ++ flat_map f (drop (i + 1) xs) = ap (flat_map f) (sym (take-append-drop (i + 1) xs)) ∙ flat_map-append f (take (i + 1) xs) (drop (i + 1) xs) in
    let first = follows_first history (flat_map f (take (i + 1) xs)) (flat_map f (drop (i + 1) xs)) (subst (CanFollow history) all follows) in
    follows_then history (flat_map f (take i xs)) (f (get_or xs i d)) (subst (CanFollow history) (next_part f xs i d below) first)

pub part_followed : {X : Type 0} (f : X → List Entry) (history : Recorded) (xs : List X) (i : ℕ) (d : X) → i < length xs → followed_by (followed_by history (flat_map f (take i xs))) (f (get_or xs i d)) ≡ followed_by history (flat_map f (take (i + 1) xs))
part_followed f history xs i d below = followed_more history (flat_map f (take i xs)) (f (get_or xs i d)) ∙ ap (followed_by history) (sym (next_part f xs i d below))
