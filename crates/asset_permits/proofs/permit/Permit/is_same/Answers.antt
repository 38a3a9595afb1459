use Rattle.std.proofs.Common.{rules}
use Rattle.asset_permits.specs.Descriptors.{same_descriptor}
use Rattle.asset_permits.proofs.permit.Permit.is_same.Goals as goal

pub returns-then-same_ops : goal.returns-then-same_ops
unfolding same_descriptor
returns-then-same_ops c = search rules
