-- Where the values come from that were read.
use Rattle.std.specs.Prelude.{ℕ, ◌==◌, ℤ, cond, List, [], ◌∷◌, ◌++◌, length, Option, Some, None}
use Rattle.asset_names.specs.declared.steps.Step.{Step}
use Rattle.asset_names.specs.declared.steps.Step.TheVariants.{Read}
use Rattle.asset_names.specs.declared.replies.Reply.{Reply}
use Rattle.asset_names.specs.declared.replies.Reply.TheVariants.{Value}
use Rattle.asset_names.specs.Steps.{Entry}
use Rattle.asset_names.specs.Sources.{Numbered, source}
use Rattle.asset_entries.specs.Recorded.{Recorded}
use Rattle.asset_sources.specs.declared.sourced.Source.{Source}
use Rattle.asset_sources.specs.declared.sourced.Source.TheVariants as Source'

-- a history, and how many of its entries a walk has passed
pub record Passing : Type 0 where
  pub history : Recorded
  pub passed : ℕ

-- the source of an object by the last write on it that stands: its entry, and the opening if there is none
unfoldable pub source_from : Option Numbered → Source
source_from None = Source'.Opening
source_from (Some found) = Source'.Entry found.0

-- the source of the value that a step read after the older entries, if it is a read that was answered by one
unfoldable pub source_of : List Entry → Step → Reply → Option Source
source_of older (Read t x) (Value v) = Some (source_from (source older x.0))
source_of older step reply = None

-- the sources of all entries, oldest first
unfoldable pub sources_of : List Entry → List (Option Source)
sources_of [] = []
sources_of (entry ∷ older) = sources_of older ++ source_of older entry.0 entry.1 ∷ []

-- the source of the entry with this number, from 0, and none past the end
unfoldable pub source_at : List Entry → ℕ → Option Source
source_at [] m = None
source_at (entry ∷ older) m = cond (m == length older) (source_of older entry.0 entry.1) (source_at older m)

-- a step with the value that it got and its source, if it got one
unfoldable pub read_with : Step → Option (ℤ × Source) → Option (Step × ℤ × Source)
read_with step None = None
read_with step (Some found) = Some (step, found.0, found.1)

-- a read that was answered by a value: the read, the value and its source
unfoldable pub read_of : Step → Reply → Option Source → Option (Step × ℤ × Source)
read_of step (Value v) (Some found) = Some (step, v, found)
read_of step reply source = None
