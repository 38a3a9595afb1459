use Rattle.std.proofs.Common.{refl}
use Rattle.asset_seats.specs.Bucketed.{bucket_in}
use Rattle.asset_seats.proofs.buckets.bucket_of.Goals as goal

pub returns-clause-bucket : goal.returns-clause-bucket
unfolding bucket_in
returns-clause-bucket c = refl
