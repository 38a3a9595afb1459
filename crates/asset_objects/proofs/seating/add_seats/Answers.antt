use Rattle.std.proofs.Common.{ℕ, ◌+◌, ◌<◌, ◌≤◌, length, ◌∙◌, arith, inl, inr}
use Rattle.std.proofs.lemmas.Bool.{cases_lt}
use Rattle.asset_chains.specs.Crossed.{Crossed}
use Rattle.asset_records.specs.declared.records.Record.{Record}
use Rattle.asset_records.specs.Listed.{seat_column}
use Rattle.asset_objects.proofs.SeatLemmas.{tied_same}
use Rattle.asset_objects.proofs.seating.add_seats.Goals as goal

-- one seat more has its column, and the others have theirs
column_more : (old new : Crossed Record) (many d : ℕ) → ((c : ℕ) → c < many → seat_column c < length old.columns.chains) → length old.columns.chains ≤ length new.columns.chains → seat_column many < length new.columns.chains → d < many + 1
    → seat_column d < length new.columns.chains
column_more old new many d each grown last within = elim (cases_lt d many) [
  | inl before ↦ omega (arith, each d before, grown)
  | inr past ↦ omega (arith, past, within, last)
]

pub seats-preserved : goal.seats-preserved
seats-preserved c = record {
  tied = tied_same c.make_room.new.self c.seats.seats c.add_seat.new.self (c.make_room.ensures.tied c.seats.seats c.seats.invariant.tied) c.add_seat.ensures.seats;
  columns = λ d within. column_more c.seats.table.records c.make_room.new.self.records (length c.seats.seats.slots) d c.seats.invariant.columns c.make_room.ensures.few.columns (omega (arith, c.in_ok-make_room.ensures.room, c.seats-in-seats-2.ensures)) (omega (arith, within, c.in_ok-add_seat.ensures.added.0));
  shown = c.make_room.ensures.shown ∙ c.seats.invariant.shown;
  few = record { items = omega (arith, c.make_room.ensures.few.items, c.seats.invariant.few.items); columns = omega (arith, c.make_room.ensures.few.columns, c.seats.invariant.few.columns) };
  slots = omega (arith, c.seats.invariant.slots, c.in_ok-add_seat.ensures.added.0);
}

pub returns-in_err-add_seat-clause-tied : goal.returns-in_err-add_seat-clause-tied
returns-in_err-add_seat-clause-tied c = tied_same c.make_room.new.self c.seats.seats c.add_seat.new.self (c.make_room.ensures.tied c.seats.seats c.seats.invariant.tied) c.add_seat.ensures.seats

pub returns-in_err-make_room-clause-columns : goal.returns-in_err-make_room-clause-columns
returns-in_err-make_room-clause-columns c = λ d within. omega (arith, c.seats.invariant.columns d within, c.make_room.ensures.few.columns)

pub returns-clause-columns : goal.returns-clause-columns
returns-clause-columns c = λ d within. c.seats.invariant.columns d within
