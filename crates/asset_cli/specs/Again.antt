-- What a script that a report prints does when it is run.
use Rattle.std.specs.Prelude.{◌≡◌, ℕ, ◌+◌, true, List, [], ◌∷◌, ◌++◌, length}
use Rattle.asset_names.specs.Steps.{Opening, Entry, applied}
use Rattle.asset_names.specs.Room.{fits}
use Rattle.asset_names.specs.Groups.{without}
use Rattle.asset_entries.specs.Recorded.{Recorded}
use Rattle.asset_history.specs.Named.{names_of}
use Rattle.asset_laws.specs.Serial.{serial}
use Rattle.asset_printing.specs.Texts.{reply_line}
use Rattle.asset_scripts.specs.declared.ends.RunEnd.TheVariants.{Finished}
use Rattle.asset_scripts.specs.Transcript.{Transcript, transcript}
use Rattle.asset_scripts.specs.declared.prints.Prints.TheVariants.{Nothing, Replies}
use Rattle.asset_cli.specs.Reporting.{pruned, reported, serialized}

-- the lines of the replies of entries, oldest first
unfoldable pub replies_text : List Entry → List ℕ
replies_text [] = []
replies_text (entry ∷ older) = replies_text older ++ reply_line entry.1

-- there was room for each entry as it came, and for what was owed after it
unfoldable pub FitThroughout : List Entry → ℕ → Type 0
FitThroughout [] capacity = Unit {0}
FitThroughout (entry ∷ older) capacity = (fits (applied (entry ∷ older)) (length older + 1) capacity ≡ true) × FitThroughout older capacity

-- the entries as a transcript: their replies, with every line looked at, and the history of them that is left
abbrev pub replayed : Opening → List Entry → ℕ → Transcript
replayed opening entries capacity = record { text = replies_text entries; end = Finished; history = record { opening = opening; entries = entries; capacity = capacity } }

-- run as a script, over a history with room for the entries, the text prints the replies that they had, and leaves them
unfoldable pub RunsAgain : List ℕ → Opening → List Entry → Type 0
RunsAgain text opening entries = (capacity : ℕ) → FitThroughout entries capacity → transcript Replies text capacity ≡ replayed opening entries capacity

-- the history that a script leaves
abbrev pub left_by : List ℕ → ℕ → Recorded
left_by bytes capacity = (transcript Nothing bytes capacity).history

-- what is printed of it without its dead groups runs again, unless a line was bad
abbrev pub PrunedRunsAgain : List ℕ → ℕ → Type 0
PrunedRunsAgain bytes capacity = (reported pruned bytes capacity).end ≡ Finished
    → RunsAgain (reported pruned bytes capacity).text (left_by bytes capacity).opening (without (left_by bytes capacity).entries (names_of (left_by bytes capacity).entries))

-- and so what is printed of those who committed, if they shared nothing
abbrev pub SerialRunsAgain : List ℕ → ℕ → Type 0
SerialRunsAgain bytes capacity = (reported serialized bytes capacity).end ≡ Finished
    → RunsAgain (reported serialized bytes capacity).text (left_by bytes capacity).opening (serial (left_by bytes capacity).entries)
