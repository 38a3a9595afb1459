-- The lines of sources.
use Rattle.std.specs.Prelude.{ℕ, ℤ, List, [], ◌∷◌, ◌++◌, length, Option, None, Some, codes}
use Rattle.std.specs.Fmt.{decimal, signed_decimal}
use Rattle.asset_names.specs.declared.steps.Step.{Step}
use Rattle.asset_names.specs.declared.replies.Reply.{Reply}
use Rattle.asset_names.specs.Steps.{Entry}
use Rattle.asset_printing.specs.Printed.{step_text}
use Rattle.asset_sources.specs.declared.sourced.Source.{Source}
use Rattle.asset_sources.specs.declared.sourced.Source.TheVariants as Source'
use Rattle.asset_sources.specs.Sourced.{source_of, read_of}

-- where a value comes from, after a space
unfoldable pub source_word : Source → List ℕ
source_word Source'.Opening = codes " opening"
source_word (Source'.Entry m) = codes " entry " ++ decimal m

-- the rest of the line of a read: the value, after a space, its source, and the line feed
unfoldable pub found_text : ℤ → Source → List ℕ
found_text v source = 32 ∷ signed_decimal v ++ source_word source ++ 10 ∷ []

-- the line of a read: the number of its entry, the read, the value and its source
unfoldable pub read_text : ℕ → Step → ℤ → Source → List ℕ
read_text n step v source = decimal n ++ 32 ∷ [] ++ step_text step ++ found_text v source

-- the line of an entry by what was read, if something was
unfoldable pub read_line : ℕ → Option (Step × ℤ × Source) → List ℕ
read_line n None = []
read_line n (Some read) = read_text n read.0 read.1 read.2

-- the line of an entry with its source, and nothing if it has none
unfoldable pub source_text : ℕ → Step → Reply → Option Source → List ℕ
source_text n step reply source = read_line n (read_of step reply source)

-- the lines of entries with their sources, oldest first
unfoldable pub sources_text : List Entry → List ℕ
sources_text [] = []
sources_text (entry ∷ older) = sources_text older ++ source_text (length older) entry.0 entry.1 (source_of older entry.0 entry.1)
