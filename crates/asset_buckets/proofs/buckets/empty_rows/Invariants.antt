use Rattle.std.proofs.Common.{◌≡◌, map}
use Rattle.asset_buckets.specs.Bucketed.{no_buckets}
use Rattle.asset_buckets.proofs.buckets.empty_rows.Given as goal

-- there is a row for each number so far
abbrev pub invariant-rows : goal.invariant-rows
invariant-rows l = map (λ row. row.items) l.rows.items ≡ no_buckets l._i
