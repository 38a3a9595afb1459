-- The report of who waits for whom when a script has ended, and what it has of a run.
use Rattle.std.specs.Prelude.{◌≡◌, ℕ, List, Option, None, Some}
use Rattle.asset_names.specs.Steps.{applied}
use Rattle.asset_core.specs.Pending.{Facility}
use Rattle.asset_scripts.specs.declared.ends.RunEnd.TheVariants.{Finished}
use Rattle.asset_scripts.specs.declared.prints.Prints.{Prints}
use Rattle.asset_scripts.specs.Transcript.{Transcript, stopped, transcript}
use Rattle.asset_waits.specs.Texts.{report_text}
use Rattle.asset_standing.specs.Standing.{left}

-- the report on this facility; if there is a bad line, the line that says so is all that is written
unfoldable pub waited_at : Option ℕ → Facility → Transcript
waited_at None facility = record { text = report_text (applied facility.history.entries) facility.pending; end = Finished; history = facility.history }
waited_at (Some n) facility = stopped n facility.history

-- what is written for the bytes of a script, over a history with room for `capacity` entries
unfoldable pub waited : List ℕ → ℕ → Transcript
waited bytes capacity = waited_at (left bytes capacity).bad (left bytes capacity).facility

-- a report ends as a run of the same script does, and leaves the same history
pub record ReportEndsAsRun (prints : Prints) (bytes : List ℕ) (capacity : ℕ) : Type 0 where
  pub end : (waited bytes capacity).end ≡ (transcript prints bytes capacity).end
  pub history : (waited bytes capacity).history ≡ (transcript prints bytes capacity).history
