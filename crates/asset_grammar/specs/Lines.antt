-- How bytes are cut into lines.
use Rattle.std.specs.Prelude.{◌≡◌, ℕ, ◌==◌, false, cond, List, [], ◌∷◌, All}
use Rattle.std.specs.List.{onto_first}

-- the lines of some bytes, without their line feeds: each line feed ends a line, and a rest after the last one is a line too
unfoldable pub lines : List ℕ → List (List ℕ)
lines [] = []
lines (b ∷ bytes) = cond (b == 10) ([] ∷ lines bytes) (onto_first b (lines bytes))

-- the first line of a text: what stands before its first line feed
unfoldable pub first_line : List ℕ → List ℕ
first_line [] = []
first_line (b ∷ text) = cond (b == 10) [] (b ∷ first_line text)

-- what stands from the end of the first line on, its line feed first
unfoldable pub line_tail : List ℕ → List ℕ
line_tail [] = []
line_tail (b ∷ text) = cond (b == 10) (b ∷ text) (line_tail text)

-- no byte of these is `byte`
unfoldable pub Lacks : ℕ → List ℕ → Type 0
Lacks byte bytes = All (λ b. (b == byte) ≡ false) bytes
