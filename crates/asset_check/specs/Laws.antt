-- What a check has to do with a run.
use Rattle.std.specs.Prelude.{◌≡◌, ℕ, List, [], ◌++◌, codes}
use Rattle.std.specs.Fmt.{decimal}
use Rattle.asset_scripts.specs.declared.ends.RunEnd.TheVariants.{Finished, BadLine}
use Rattle.asset_scripts.specs.Transcript.{transcript}
use Rattle.asset_check.specs.Checked.{checked}
use Rattle.asset_scripts.specs.declared.prints.Prints.{Prints}

-- a check ends as a run does: with the same first bad line, or with none
abbrev pub EndsAsRun : List ℕ → Prints → ℕ → Type 0
EndsAsRun bytes prints capacity = (checked bytes).end ≡ (transcript prints bytes capacity).end

-- it prints nothing if no line is bad
abbrev pub IsQuietIfFinished : List ℕ → Type 0
IsQuietIfFinished bytes = (checked bytes).end ≡ Finished → (checked bytes).text ≡ []

-- the first line that it prints names the first bad line
abbrev pub NamesFirst : List ℕ → ℕ → Type 0
NamesFirst bytes n = (checked bytes).end ≡ BadLine n → (rest : List ℕ) × ((checked bytes).text ≡ (codes "line " ++ decimal n ++ codes ": ") ++ rest)
