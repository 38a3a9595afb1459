-- Where things stand in a picture, in pixels, and how text is put together.
use Rattle.std.specs.Prelude.{ℕ, ◌+◌, ◌*◌, Bool, ◌||◌, cond, nat_lt, unsigned_abs, List, [], ◌∷◌, ◌++◌, codes}
use Rattle.std.specs.List.{list_any}
use Rattle.asset_lanes.specs.declared.marking.Mark.{Mark}

-- pieces of text, one after another
unfoldable pub pieces : List (List ℕ) → List ℕ
pieces [] = []
pieces (piece ∷ more) = piece ++ pieces more

-- whether a mark has a long number: an object of seven digits or more, or a value of six
unfoldable pub is_long : Mark → Bool
is_long mark = nat_lt 999999 mark.x || nat_lt 99999 (unsigned_abs mark.v)

-- whether the columns are wide
unfoldable pub are_wide : List Mark → Bool
are_wide marks = list_any is_long marks

-- the column of the entry with this number: 156 pixels for each entry if there are long numbers, and 48 otherwise
unfoldable pub x_at : Bool → ℕ → ℕ
x_at wide number = cond wide (230 + 156 * number) (230 + 48 * number)

-- the middle of a row: 56 pixels for each lane
unfoldable pub y_at : ℕ → ℕ
y_at row = 108 + 56 * row

-- where the bow of a read starts to bend, above its row
unfoldable pub bow_at : ℕ → ℕ
bow_at row = 74 + 56 * row

-- how many columns a picture has: at least as many as the legend takes
unfoldable pub columns : ℕ → ℕ
columns count = cond (nat_lt count 12) 12 count

-- the word, after a space, by which what is of a dead group is drawn pale; nothing for another group
unfoldable pub pale : Bool → List ℕ
pale is_dead = cond is_dead (codes " dead") []
