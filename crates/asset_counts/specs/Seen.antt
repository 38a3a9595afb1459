-- A pass by the reader that it may have.
use Rattle.std.specs.Prelude.{Option, Some, None}
use Rattle.atomic_table.specs.Seated.{TableId}
use Rattle.asset_names.specs.declared.counts.Counts.{Counts}
use Rattle.asset_counts.specs.Shown.{no_counts}
use Rattle.asset_counts.specs.Pass.{Pass, PassSeen}
use Rattle.asset_counts.specs.declared.watch.WatchPass.TheInside.{Inside}

-- its word, the counts that it saw last, and both
abbrev pub of_reader : Option Pass → Option TableId
of_reader None = None
of_reader (Some reader) = Some reader.of

abbrev pub last_of : Option Pass → Counts
last_of None = no_counts
last_of (Some reader) = reader.last

abbrev pub seen_by : Inside → PassSeen
seen_by pass = record { of = of_reader pass.reader; last = last_of pass.reader }
