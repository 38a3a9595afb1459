use Rattle.std.proofs.Common.{◌≡◌, ℕ, ◌+◌, ◌*◌, ◌≤◌, true, eqb, length}
use Rattle.asset_objects.specs.Cells.{undone}
use Rattle.asset_chains.specs.Crossed.{has_room}
use Rattle.asset_records.specs.Listed.{lists_in, records_by, IsTied, IsNoMore}
use Rattle.asset_objects.specs.Placed.{cell_at}
use Rattle.asset_objects.proofs.ending.undo.Given as goal

-- some updates of the transaction are taken back, and each cell is the same without them
abbrev pub invariant-newest : goal.invariant-newest
invariant-newest l = record {
  values : length l.values.items ≡ length l.initial.values.items;
  lists : length (lists_in l.records) ≡ length (lists_in l.initial.records);
  cells : (i : ℕ) → undone (λ n. eqb n l.t.t.0) (cell_at l.values.items (lists_in l.records) i) ≡ undone (λ n. eqb n l.t.t.0) (cell_at l.initial.values.items (lists_in l.initial.records) i);
  visits : l.visits + 4 * records_by (λ n. eqb n l.t.t.0) (lists_in l.records) ≤ 4 * records_by (λ n. eqb n l.t.t.0) (lists_in l.initial.records);
  tied : IsTied l.records l.seats;
  few : IsNoMore l.initial.records l.records;
  reserved : has_room l.initial.records ≡ true → has_room l.records ≡ true;
}

abbrev pub decreases-newest : goal.decreases-newest
decreases-newest l = records_by (λ n. eqb n l.t.t.0) (lists_in l.records)
