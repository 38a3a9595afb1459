use Rattle.std.proofs.Common.{◌≡◌, true, length}
use Rattle.asset_chains.specs.Chained.{chain_of}
use Rattle.asset_chains.specs.Crossed.{IsCrossed, has_room}
use Rattle.asset_seats.specs.Seated.{Seated}
use Rattle.asset_records.specs.Listed.{IsTied, IsNoMore}
use Rattle.asset_records.proofs.SettleLemmas.{IsShedding}
use Rattle.asset_records.proofs.settling.shed.Given as goal

-- some adds of nobody are gone, which stood before all else
abbrev pub invariant-first : goal.invariant-first
invariant-first l = record {
  crossed : IsCrossed l.records;
  shedding : IsShedding l.object l.initial.records l.records;
  tied : (seats : Seated) → IsTied l.initial.records seats → IsTied l.records seats;
  few : IsNoMore l.initial.records l.records;
  room : has_room l.initial.records ≡ true → has_room l.records ≡ true;
}

abbrev pub decreases-first : goal.decreases-first
decreases-first l = length (chain_of l.records.rows l.object)
