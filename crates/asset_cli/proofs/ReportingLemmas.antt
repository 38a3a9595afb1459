-- A report after what was played.
use Rattle.std.proofs.Common.{◌≡◌, ℕ, List, ◌++◌, refl, sym, append_assoc}
use Rattle.asset_entries.specs.Recorded.{Recorded}
use Rattle.asset_scripts.specs.declared.ends.RunEnd.{RunEnd}
use Rattle.asset_scripts.specs.declared.ends.RunEnd.TheVariants as RunEnd'
use Rattle.asset_scripts.specs.Transcript.{Transcript, transcript}
use Rattle.asset_scripts.specs.Renders.{Renders}
use Rattle.asset_scripts.specs.declared.prints.Prints.TheVariants.{Nothing}
use Rattle.asset_cli.specs.declared.rendering.Played.{Played}
use Rattle.asset_cli.specs.declared.rendering.Played.TheVariants as Played'
use Rattle.asset_cli.specs.Rendering.{IsLeftBy, Plays, played_end}
use Rattle.asset_cli.specs.Reporting.{Reported, with_report, reported}

-- every line was looked at, and the report follows
report_renders : (before mid after : List ℕ) (report : Recorded → Reported) (bytes : List ℕ) (capacity : ℕ) (left : Recorded) (end : RunEnd) → mid ≡ before ++ (transcript Nothing bytes capacity).text
    → (transcript Nothing bytes capacity).end ≡ RunEnd'.Finished → left ≡ (transcript Nothing bytes capacity).history → after ≡ mid ++ (report left).text → end ≡ (report left).end → Renders before (reported report bytes capacity) after end
unfolding reported with_report
report_renders before mid after report bytes capacity left end text finished same wrote ends =
    rw (wrote, ends, text, same, finished) (record { text = append_assoc before _ _; ends = refl })

-- so after a history
pub history_renders : (before mid after : List ℕ) (report : Recorded → Reported) (bytes : List ℕ) (capacity : ℕ) (left : Recorded) (end : RunEnd) → Plays before (transcript Nothing bytes capacity) mid (Played'.Finished left)
    → after ≡ mid ++ (report left).text → end ≡ (report left).end → Renders before (reported report bytes capacity) after end
unfolding IsLeftBy
history_renders before mid after report bytes capacity left end plays wrote ends = report_renders before mid after report bytes capacity left end plays.text plays.left.0 plays.left.1 wrote ends

-- a line was bad, and no report is made
pub bad_line_renders : (before after : List ℕ) (report : Recorded → Reported) (bytes : List ℕ) (capacity n : ℕ) → Plays before (transcript Nothing bytes capacity) after (Played'.BadLine n)
    → Renders before (reported report bytes capacity) after (RunEnd'.BadLine n)
unfolding reported with_report IsLeftBy
bad_line_renders before after report bytes capacity n plays = rw plays.left (record { text = plays.text; ends = refl })

-- all of the transcript was appended
pub played_renders : (before after : List ℕ) (all : Transcript) (played : Played) → Plays before all after played → Renders before all after (played_end played)
unfolding IsLeftBy played_end
played_renders before after all (Played'.Finished left) plays = record { text = plays.text; ends = sym plays.left.0 }
played_renders before after all (Played'.BadLine n) plays = record { text = plays.text; ends = sym plays.left }
