use Rattle.std.proofs.Common.{◌≡◌, ℕ, ◌+◌, ◌*◌, ◌≤◌, true, false, Some, is_some, length, eqb}
use Rattle.slab.specs.Slab.{get}
use Rattle.asset_chains.specs.Chained.{chain_of, home_of, ahead, behind}
use Rattle.asset_chains.specs.Crossed.{IsCrossed, has_room}
use Rattle.asset_seats.specs.Seated.{Seated}
use Rattle.asset_records.specs.Listed.{IsTied, IsNoMore}
use Rattle.asset_records.proofs.ThroughLemmas.{owned_many}
use Rattle.asset_records.proofs.dropping.drop_through.Given as goal

-- the oldest records of the object are gone, and the last one to go still stands
abbrev pub invariant-oldest : goal.invariant-oldest
invariant-oldest l = record {
  tied : (seats : Seated) → IsTied l.initial.records seats → IsTied l.records seats;
  crossed : IsCrossed l.records;
  home : home_of l.records.rows l.last ≡ Some l.object;
  rest : behind l.last (chain_of l.records.rows l.object) ≡ behind l.last (chain_of l.initial.records.rows l.object);
  others : (j : ℕ) → eqb j l.object ≡ false → chain_of l.records.rows j ≡ chain_of l.initial.records.rows j;
  kept : (k : ℕ) → is_some (get l.records.items k) ≡ true → get l.records.items k ≡ get l.initial.records.items k;
  many : length l.records.rows.chains ≡ length l.initial.records.rows.chains;
  counted : owned_many l.initial.records.items (ahead l.last (chain_of l.initial.records.rows l.object)) ≤ l.visited + owned_many l.initial.records.items (ahead l.last (chain_of l.records.rows l.object));
  visited : l.visited + 4 * owned_many l.initial.records.items (ahead l.last (chain_of l.records.rows l.object)) ≤ 4 * owned_many l.initial.records.items (ahead l.last (chain_of l.initial.records.rows l.object));
  few : IsNoMore l.initial.records l.records;
  room : has_room l.initial.records ≡ true → has_room l.records ≡ true;
}

abbrev pub decreases-oldest : goal.decreases-oldest
decreases-oldest l = length (chain_of l.records.rows l.object)
