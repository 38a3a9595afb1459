-- What scripts are run for: their transcript, or a report on the history that they leave.
use Rattle.std.specs.Prelude.{ℕ, cond, List, ◌++◌}
use Rattle.asset_laws.specs.Serial.{shares_nothing}
use Rattle.asset_entries.specs.Recorded.{Recorded}
use Rattle.asset_reports.specs.Reports.{pruned_text, serial_text}
use Rattle.asset_reports.specs.Groups.{groups_text}
use Rattle.asset_reports.specs.Sources.{sources_text}
use Rattle.asset_picture.specs.Picture.{picture_text}
use Rattle.asset_scripts.specs.declared.ends.RunEnd.{RunEnd}
use Rattle.asset_scripts.specs.declared.ends.RunEnd.TheVariants.{Finished, Shared}
use Rattle.asset_scripts.specs.Transcript.{Transcript, transcript}
use Rattle.asset_scripts.specs.declared.prints.Prints.TheVariants.{Nothing, Replies, Listing}
use Rattle.asset_cli.specs.declared.reporting.Report.{Report}
use Rattle.asset_cli.specs.declared.reporting.Report.TheVariants as Report'
use Rattle.asset_cli.specs.declared.reporting.Work.{Work}
use Rattle.asset_cli.specs.declared.reporting.Work.TheVariants as Work'

-- the text of a report, and how a run ends with it
pub record Reported : Type 0 where
  pub text : List ℕ
  pub end : RunEnd

-- a report that can always be made
abbrev pub always : List ℕ → Reported
always text = record { text = text; end = Finished }

-- the script that is left without dead groups
abbrev pub pruned : Recorded → Reported
pruned history = always (pruned_text history)

-- the groups
abbrev pub grouped : Recorded → Reported
grouped history = always (groups_text history.entries)

-- the sources of what was read
abbrev pub sourced : Recorded → Reported
sourced history = always (sources_text history.entries)

-- those who committed, one after another, unless they shared something
abbrev pub serialized : Recorded → Reported
serialized history = record { text = serial_text history; end = cond (shares_nothing history.entries) Finished Shared }

-- the report follows what was printed, and the run ends as the report says, unless a line was bad
unfoldable pub with_report : RunEnd → Transcript → Reported → Transcript
with_report Finished run report = record run { text = run.text ++ report.text; end = report.end }
with_report end run report = run

-- A report on the history that a script leaves. The steps print nothing. If a line is bad, the line that says so is printed in
-- place of the report.
unfoldable pub reported : (Recorded → Reported) → List ℕ → ℕ → Transcript
reported report bytes capacity = with_report (transcript Nothing bytes capacity).end (transcript Nothing bytes capacity) (report (transcript Nothing bytes capacity).history)

-- the picture
abbrev pub pictured : Recorded → Reported
pictured history = always (picture_text history.entries)

-- each report that is made of the history alone
abbrev pub report_of : Report → Recorded → Reported
report_of Report'.Pruned = pruned
report_of Report'.Groups = grouped
report_of Report'.Serial = serialized
report_of Report'.Picture = pictured

-- what each work gives of the bytes of a script
abbrev pub transcript_of : Work → List ℕ → ℕ → Transcript
transcript_of Work'.Run bytes capacity = transcript Replies bytes capacity
transcript_of Work'.Steps bytes capacity = transcript Listing bytes capacity
transcript_of Work'.Sources bytes capacity = reported sourced bytes capacity
transcript_of (Work'.Report report) bytes capacity = reported (report_of report) bytes capacity
