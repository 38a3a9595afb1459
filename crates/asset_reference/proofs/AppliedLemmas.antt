-- The entries as a loop over them meets them, oldest first.
use Rattle.std.proofs.Common.{◌≡◌, ℕ, ◌+◌, ◌<◌, List, [], ◌∷◌, length, get_or, take, reverse, sym, ◌∙◌, ap}
use Rattle.std.proofs.lemmas.List.{take_more, reverse-append}
use Rattle.asset_names.specs.Steps.{Entry}

-- one more entry is the newest of those before it
pub reverse_take_item : (entries : List Entry) (i : ℕ) (item : Entry) → i < length entries → item ≡ get_or entries i item → reverse (take (i + 1) entries) ≡ item ∷ reverse (take i entries)
reverse_take_item entries i item below is =
    ap reverse (take_more entries i item below)
    ∙ reverse-append (take i entries) (get_or entries i item ∷ [])
    ∙ ap (λ entry. entry ∷ reverse (take i entries)) (sym is)
