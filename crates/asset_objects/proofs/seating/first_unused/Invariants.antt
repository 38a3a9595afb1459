use Rattle.std.proofs.Common.{◌≡◌, ◌<◌, ℕ, false}
use Rattle.std.specs.Prelude.{is_none}
use Rattle.asset_chains.specs.Chained.{chain_of, first_of}
use Rattle.asset_records.specs.Listed.{seat_column}
use Rattle.asset_objects.proofs.seating.first_unused.Given as goal

-- there is a record in the column of each seat so far
abbrev pub invariant-seats : goal.invariant-seats
invariant-seats l = (d : ℕ) → d < l.c → is_none (first_of (chain_of l.table.records.columns (seat_column d))) ≡ false
