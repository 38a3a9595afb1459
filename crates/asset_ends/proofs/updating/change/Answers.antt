use Rattle.std.proofs.Common.{rules}
use Rattle.asset_ends.specs.Updates.{effect_of}
use Rattle.asset_ends.proofs.updating.change.Goals as goal

pub returns-in-Write-clause-cells : goal.returns-in-Write-clause-cells
unfolding effect_of
returns-in-Write-clause-cells c = search rules

pub returns-in-Add-clause-cells : goal.returns-in-Add-clause-cells
unfolding effect_of
returns-in-Add-clause-cells c = search rules
