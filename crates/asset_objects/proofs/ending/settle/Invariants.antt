use Rattle.std.proofs.Common.{◌≡◌, ℕ, ◌+◌, ◌*◌, ◌≤◌, true, eqb, length}
use Rattle.asset_objects.specs.Cells.{settled}
use Rattle.asset_chains.specs.Crossed.{has_room}
use Rattle.asset_records.specs.Listed.{lists_in, records_by, IsTied, IsNoMore}
use Rattle.asset_objects.specs.Placed.{cell_at}
use Rattle.asset_objects.proofs.ending.settle.Given as goal

-- some records of the transaction have come to stand for good, and each cell is the same once it has settled
abbrev pub invariant-next : goal.invariant-next
invariant-next l = record {
  lists : length (lists_in l.records) ≡ length (lists_in l.initial.records);
  cells : (i : ℕ) → settled (λ n. eqb n l.t.t.0) (cell_at l.values (lists_in l.records) i) ≡ settled (λ n. eqb n l.t.t.0) (cell_at l.values (lists_in l.initial.records) i);
  visits : l.visits + 4 * records_by (λ n. true) (lists_in l.records) ≤ 4 * records_by (λ n. true) (lists_in l.initial.records);
  tied : IsTied l.records l.seats;
  few : IsNoMore l.initial.records l.records;
  reserved : has_room l.initial.records ≡ true → has_room l.records ≡ true;
}

abbrev pub decreases-next : goal.decreases-next
decreases-next l = records_by (λ n. eqb n l.t.t.0) (lists_in l.records)
