-- The lines of a listing: a script's steps with their replies beside them.
use Rattle.std.specs.Prelude.{ℕ, ◌-◌, List, [], ◌∷◌, ◌++◌, length, Option, None, Some, codes, replicate}
use Rattle.std.specs.Fmt.{decimal}
use Rattle.asset_names.specs.declared.steps.Step.{Step}
use Rattle.asset_names.specs.declared.replies.Outcome.{Outcome}
use Rattle.asset_names.specs.declared.replies.Outcome.TheVariants.{Answer, Wait}
use Rattle.asset_printing.specs.Printed.{step_text}

-- a word in a column of this width, and a space after it
unfoldable pub column : ℕ → List ℕ → List ℕ
column width word = word ++ (replicate (width - length word) 32 ++ 32 ∷ [])

-- the number of the entry that a step with this outcome becomes, if the next one has the number `place`: a wait becomes none
unfoldable pub entry_of : Outcome → ℕ → Option ℕ
entry_of (Answer reply) place = Some place
entry_of Wait place = None

-- the number of an entry, or a dash
unfoldable pub entry_word : Option ℕ → List ℕ
entry_word None = codes "-"
entry_word (Some number) = decimal number

-- the line of a step in a listing: the number of its line, the number of its entry, the step, and what it prints in a transcript
unfoldable pub listed : ℕ → Option ℕ → Step → List ℕ → List ℕ
listed n entry step reply = column 7 (decimal n) ++ (column 7 (entry_word entry) ++ (column 31 (step_text step) ++ reply))
