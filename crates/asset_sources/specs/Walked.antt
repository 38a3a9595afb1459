-- How far a walk over a history has come.
use Rattle.std.specs.Prelude.{ℕ, List, reverse, take}
use Rattle.asset_names.specs.Steps.{Entry, applied}
use Rattle.asset_laws.specs.Renumbered.{renumbered, zeroed}
use Rattle.asset_entries.specs.Recorded.{Recorded}
use Rattle.asset_ends.specs.Shows.{Shows}
use Rattle.asset_ends.specs.Standing.{Standing, values_of}

-- the first entries of a history, newest first
abbrev pub first_entries : Recorded → ℕ → List Entry
first_entries history count = reverse (take count (reverse history.entries))

-- the tables show the first entries of a history, with the numbers of entries in place of values
abbrev pub ShowsFirstNumbered : Recorded → ℕ → Standing → Type 0
ShowsFirstNumbered history count tables = Shows (zeroed history.opening) (applied (renumbered (first_entries history count))) (values_of tables)
