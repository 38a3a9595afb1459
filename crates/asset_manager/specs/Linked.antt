-- A session by its fields.
use Rattle.std.specs.Prelude.{◌≡◌, Option, Some, None}
use Rattle.std.specs.Arc.{arc_value}
use Rattle.atomic_table.specs.Seated.{TableId}
use Rattle.asset_names.specs.declared.counts.Counts.{Counts}
use Rattle.asset_counts.specs.Shown.{no_counts}
use Rattle.asset_manager.specs.Asker.{Asker}
use Rattle.asset_manager.specs.declared.session.Link.{Link}
use Rattle.asset_manager.specs.declared.session.Session.TheInside.{Inside}

-- the word of a link, if there is one, and the counts that it saw last
abbrev pub of_link : Option Link → Option TableId
of_link None = None
of_link (Some link) = Some (arc_value link.watch)

abbrev pub seen_by : Option Link → Counts
seen_by None = no_counts
seen_by (Some link) = link.pass.last

-- the pass of a link is of its word
abbrev pub IsOne : Option Link → Type 0
IsOne None = Unit {0}
IsOne (Some link) = link.pass.of ≡ Some (arc_value link.watch)

abbrev pub asker_of : Inside → Asker
asker_of session = record { of = of_link session.link; seen = seen_by session.link; list = session.list }

abbrev pub IsLinked : Inside → Type 0
IsLinked session = IsOne session.link
