use Rattle.std.proofs.Common.{length}
use Rattle.asset_chains.specs.Chained.{chain_of}
use Rattle.asset_chains.specs.Crossed.{IsCrossed}
use Rattle.asset_chains.proofs.Walks.{from_key}
use Rattle.asset_records.proofs.PassLemmas.{IsPassing}
use Rattle.asset_records.proofs.handing.hand_over_row.Given as goal

-- of the records that were passed those that were in the column are the taker's
abbrev pub invariant-keys : goal.invariant-keys
invariant-keys l = record {
  crossed : IsCrossed l.records;
  passing : IsPassing l.object l.from l.to.at l.to.t l.initial.records l.records l.next l.visits;
}

abbrev pub decreases-keys : goal.decreases-keys
decreases-keys l = length (from_key l.next (chain_of l.initial.records.rows l.object))
