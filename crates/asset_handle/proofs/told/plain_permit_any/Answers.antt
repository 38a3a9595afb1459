use Rattle.std.proofs.Common.{rules}
use Rattle.asset_handle.specs.Asked.{step_in, permit_any_in, permit_any_of}
use Rattle.asset_handle.specs.Told.{bare}
use Rattle.asset_handle.proofs.told.plain_permit_any.Goals as goal

pub returns : goal.returns
unfolding step_in permit_any_in permit_any_of bare
returns c = search rules
