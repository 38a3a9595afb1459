use Rattle.std.proofs.Common.{◌≡◌, ◌≢◌, ℕ, suc, ◌<◌, ◌≤◌, length, slice_index}
use Rattle.asset_name_groups.specs.Index.{bucket_in}
use Rattle.asset_name_groups.proofs.index.find_name.Given as goal

-- the name is not among those passed, and the next one is in its bucket
abbrev pub invariant-bucket : goal.invariant-bucket
invariant-bucket l = record {
  low : l.at ≤ length l.fn.names;
  within : (k : ℕ) → l.at ≡ suc k → bucket_in (slice_index l.fn.names k) (length l.fn.last) ≡ bucket_in l.fn.t (length l.fn.last);
  passed : (k : ℕ) → l.at ≤ k → k < length l.fn.names → slice_index l.fn.names k ≢ l.fn.t;
}

abbrev pub decreases-bucket : goal.decreases-bucket
decreases-bucket l = l.at
