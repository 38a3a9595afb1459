use Rattle.std.proofs.Common.{◌≡◌, ℕ, map}
use Rattle.asset_buckets.specs.Bucketed.{no_buckets}
use Rattle.asset_buckets.proofs.BucketLemmas.{filled}
use Rattle.asset_buckets.proofs.buckets.fill.Given as goal

-- the first indices are in their rows
abbrev pub invariant-numbers : goal.invariant-numbers
invariant-numbers l = (count : ℕ) → map (λ row. row.items) l.fn.rows.items ≡ no_buckets count → map (λ row. row.items) l.rows.items ≡ filled l.numbers count l.i
