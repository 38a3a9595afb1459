-- What a table says of each transaction.
use Rattle.std.specs.Prelude.{ℕ, ◌-◌, List, [], length, map, slice_get, unwrap_or}
use Rattle.asset_names.specs.Steps.{Entry, applied}
use Rattle.asset_names.specs.Endings.{status}
use Rattle.asset_deletion.specs.Grouping.{Grouping, number_in, dead_in}
use Rattle.asset_lanes.specs.declared.summing.Summary.{Summary}
use Rattle.asset_lanes.specs.Uses.{with_names, uses, uses_of}

-- the summary of n, which asked for these entries
unfoldable pub summary_of : Grouping → List Entry → List ℕ → ℕ → Summary
summary_of groups entries used n = record {
  t = n;
  group = unwrap_or (number_in groups n) 0;
  is_dead = dead_in groups n;
  status = status (applied entries) n;
  count = length used;
  first = slice_get used 0;
  last = slice_get used (length used - 1);
}

-- by the names, and the entries that each asked for
unfoldable pub summary_in : Grouping → List Entry → List ℕ → List (List ℕ) → ℕ → Summary
summary_in groups entries names used n = summary_of groups entries (uses_of names used n) n

-- the summaries of the rows, by the names and the entries that each asked for
unfoldable pub summaries_by : Grouping → List Entry → List ℕ → List (List ℕ) → List ℕ → List Summary
summaries_by groups entries names used rows = map (summary_in groups entries names used) rows

-- by the names of the rows, each once
unfoldable pub summaries : Grouping → List ℕ → List Entry → List Summary
summaries groups rows entries = summaries_by groups entries (with_names [] rows) (uses (with_names [] rows) entries) rows
