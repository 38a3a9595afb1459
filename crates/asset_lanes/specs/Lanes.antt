-- The lanes of a picture: one for each transaction.
use Rattle.std.specs.Prelude.{ℕ, suc, Bool, cond, not, ◌==◌, List, [], ◌∷◌, length, flat_map, map, slice_get, Option, None, Some, unwrap_or}
use Rattle.std.specs.Option.{option_or}
use Rattle.std.specs.List.{range_with_len}
use Rattle.asset_names.specs.declared.statuses.Status.{Status}
use Rattle.asset_names.specs.Steps.{Entry, applied}
use Rattle.asset_names.specs.Endings.{status}
use Rattle.asset_names.specs.Answers.{is_unknown, has_ended}
use Rattle.asset_buckets.specs.Bucketed.{indices_of}
use Rattle.asset_deletion.specs.Grouping.{Grouping, number_in, dead_in}
use Rattle.asset_names.specs.declared.statuses.Status.TheVariants as Status'
use Rattle.asset_lanes.specs.declared.spanning.Lane.{Lane}
use Rattle.asset_lanes.specs.declared.spanning.Span.{Span}

-- a name, if there is one
unfoldable pub name_list : Option ℕ → List ℕ
name_list None = []
name_list (Some n) = n ∷ []

-- the name at the index
unfoldable pub name_at : Grouping → ℕ → List ℕ
name_at groups k = name_list (slice_get groups.names k)

-- the names at the indices
unfoldable pub names_at : Grouping → List ℕ → List ℕ
names_at groups indices = flat_map (name_at groups) indices

-- the transactions of the group with this number, in order of first use
unfoldable pub members_of : Grouping → ℕ → List ℕ
members_of groups g = names_at groups (indices_of g groups.numbers)

-- the transactions of the lanes from the top: those of one group side by side, and groups in order of number
unfoldable pub lane_names : Grouping → List ℕ
lane_names groups = flat_map (members_of groups) (range_with_len 0 groups.count)

-- the row of n's lane, from 0, and how many there are if it has none
unfoldable pub row_of : List ℕ → ℕ → ℕ
row_of [] n = 0
row_of (m ∷ rows) n = cond (n == m) 0 (suc (row_of rows n))

-- whether a transaction of this status was initiated
unfoldable pub is_known : Status → Bool
is_known status = not (is_unknown status)

-- the number of an entry, if the status after it passes the test
unfoldable pub number_if : Bool → ℕ → Option ℕ
number_if passes number = cond passes (Some number) None

-- a span with one more entry, after which the transaction has this status: the first such entry is the one that counts
unfoldable pub spanned : Span → ℕ → Status → Span
spanned span number status = record {
  status = status;
  start = option_or span.start (number_if (is_known status) number);
  stop = option_or span.stop (number_if (has_ended status) number);
}

-- n's status after the entries, and the numbers of the entries that initiated and ended it
unfoldable pub span_of : List Entry → ℕ → Span
span_of [] n = record { status = Status'.Unknown; start = None; stop = None }
span_of (entry ∷ older) n = spanned (span_of older n) (length older) (status (applied (entry ∷ older)) n)

-- the lane of n: from its initiate to the entry that ended it
unfoldable pub lane_of : Grouping → List ℕ → List Entry → ℕ → Lane
lane_of groups rows entries n = record { t = n; row = row_of rows n; group = unwrap_or (number_in groups n) 0; is_dead = dead_in groups n; span = span_of entries n }

-- the lanes from the top
unfoldable pub lanes : Grouping → List ℕ → List Entry → List Lane
lanes groups rows entries = map (lane_of groups rows entries) rows
