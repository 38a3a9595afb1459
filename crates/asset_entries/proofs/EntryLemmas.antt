-- The entry of an index, with the entries before it and after it.
use Rattle.std.proofs.Common.{◌≡◌, ℕ, ◌+◌, List, [], ◌∷◌, ◌++◌, get_or, take, drop, reverse, sym, ap, ◌∙◌, Some}
use Rattle.std.specs.Prelude.{slice_get}
use Rattle.std.proofs.lemmas.List.{reverse-append, reverse-reverse, take-append-drop, take_more}
use Rattle.std.proofs.lemmas.Option.{slice_get_within, get_or_from_slice_get}
use Rattle.asset_names.specs.Steps.{Entry}

-- the first entries with the next one
pub next_entry : (entries : List Entry) (i : ℕ) (entry : Entry) → slice_get entries i ≡ Some entry → reverse (take (i + 1) entries) ≡ entry ∷ reverse (take i entries)
next_entry entries i entry at =
    ap reverse (take_more entries i entry (slice_get_within entries i entry at)) ∙ reverse-append (take i entries) (get_or entries i entry ∷ [])
    ∙ ap (λ (x : Entry). x ∷ reverse (take i entries)) (get_or_from_slice_get entries i entry entry at)

-- the entry at i between the newer and the older ones
pub between : (all : List Entry) (i : ℕ) (entry : Entry) → slice_get (reverse all) i ≡ Some entry → reverse (drop (i + 1) (reverse all)) ++ entry ∷ reverse (take i (reverse all)) ≡ all
between all i entry at =
    let entries = reverse all in
    ap (λ l. reverse (drop (i + 1) (reverse all)) ++ l) (sym (next_entry entries i entry at))
    ∙ sym (reverse-append (take (i + 1) entries) (drop (i + 1) entries))
    ∙ ap reverse (take-append-drop (i + 1) entries)
    ∙ reverse-reverse all
