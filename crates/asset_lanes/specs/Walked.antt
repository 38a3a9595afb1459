-- How far a walk over a history has come.
use Rattle.std.specs.Prelude.{ℕ}
use Rattle.asset_names.specs.Steps.{applied}
use Rattle.asset_entries.specs.Recorded.{Recorded}
use Rattle.asset_ends.specs.Shows.{Shows}
use Rattle.asset_ends.specs.Standing.{Standing, values_of}
use Rattle.asset_sources.specs.Walked.{first_entries}

-- the tables show the first entries of a history
abbrev pub ShowsFirst : Recorded → ℕ → Standing → Type 0
ShowsFirst history count tables = Shows history.opening (applied (first_entries history count)) (values_of tables)
