use Rattle.std.proofs.Common.{◌≡◌, ℕ, true, Some, length}
use Rattle.asset_chains.specs.Chained.{chain_of, behind, lists}
use Rattle.asset_chains.proofs.Walks.{from_key}
use Rattle.asset_records.specs.Listed.{at_keys}
use Rattle.asset_records.specs.Mended.{summed}
use Rattle.asset_records.specs.Dropped.{first_write}
use Rattle.asset_records.proofs.mending.climb.Given as goal

-- there is no write before the next record, and the adds before it are part of the value
abbrev pub invariant-adds : goal.invariant-adds
invariant-adds l = record {
  listed : (k : ℕ) → l.next ≡ Some k → lists (chain_of l.records.rows l.object) k ≡ true;
  write : first_write l.records.items (from_key l.next (chain_of l.records.rows l.object)) ≡ first_write l.records.items (behind l.key (chain_of l.records.rows l.object));
  summed : summed l.value (at_keys l.records.items (from_key l.next (chain_of l.records.rows l.object))) ≡ summed l.fn.value (at_keys l.records.items (behind l.key (chain_of l.records.rows l.object)));
}

abbrev pub decreases-adds : goal.decreases-adds
decreases-adds l = length (from_key l.next (chain_of l.records.rows l.object))
