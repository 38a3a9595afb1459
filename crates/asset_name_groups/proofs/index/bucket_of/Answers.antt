use Rattle.std.proofs.Common.{refl}
use Rattle.asset_name_groups.specs.Index.{bucket_in}
use Rattle.asset_name_groups.proofs.index.bucket_of.Goals as goal

pub returns-clause-bucket : goal.returns-clause-bucket
unfolding bucket_in
returns-clause-bucket c = refl
