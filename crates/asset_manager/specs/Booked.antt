-- The value behind the lock as callers see it.
use Rattle.std.specs.Prelude.{◌≡◌, ◌≤◌, true, length}
use Rattle.asset_names.specs.Answers.{IsLegal}
use Rattle.asset_names.specs.Steps.{applied}
use Rattle.asset_names.specs.Room.{fits}
use Rattle.asset_entries.specs.Recorded.{Recorded}
use Rattle.asset_names.specs.Counted.{counts_of}
use Rattle.asset_core.specs.Pending.{Facility}
use Rattle.asset_counts.specs.Pass.{Pass}

-- the facility, and the word of counts with what was published there last
pub record Booked : Type 0 where
  pub facility : Facility
  pub published : Pass

-- a history that a facility can have: it is legal, its entries and those that are owed fit its capacity, and that is at most
-- 1,000,000
pub record CanBeHeld (history : Recorded) : Type 0 where
  pub legal : IsLegal history.opening history.entries
  pub fits : fits (applied history.entries) (length history.entries) history.capacity ≡ true
  pub capacity : history.capacity ≤ 1000000

-- the history is one that a facility can have, and its counts were published last
pub record IsValid (book : Booked) : Type 0 where
  pub held : CanBeHeld book.facility.history
  pub shown : book.published.last ≡ counts_of book.facility.history.entries
