use Rattle.std.proofs.Common.{refl}
use Rattle.asset_names.specs.Steps.{applied}
use Rattle.asset_reference.specs.Ways.{ways, leaves}
use Rattle.asset_reference.proofs.endings.leaves.Goals as goal

pub entries-init : goal.entries-init
unfolding applied ways leaves
entries-init c = refl
