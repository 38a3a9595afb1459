-- Columns of a listing.
use Rattle.std.proofs.Common.{◌≡◌, ℕ, ◌-◌, List, [], ◌∷◌, ◌++◌, length, replicate, ◌∙◌, append_assoc, arith}
use Rattle.std.proofs.lemmas.List.{length-append}
use Rattle.asset_scripts.specs.Listing.{column}

-- a word is pushed, and then the spaces that end its column
pub column_pushed : (before word mid after : List ℕ) (width start : ℕ) → start ≡ length before → mid ≡ before ++ word
    → after ≡ mid ++ (replicate (width - (length mid - start)) 32 ++ 32 ∷ []) → after ≡ before ++ column width word
unfolding column
column_pushed before word mid after width start starts pushed ended =
    let used : length mid - start ≡ length word = rw (pushed, starts, length-append before word) (omega arith) in
    ended ∙ rw (used, pushed) (append_assoc before word _)
