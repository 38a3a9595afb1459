use Rattle.std.proofs.Common.{refl}
use Rattle.asset_names.specs.Steps.{applied}
use Rattle.asset_reference.specs.Ways.{ways, enters}
use Rattle.asset_reference.proofs.endings.enters.Goals as goal

pub entries-init : goal.entries-init
unfolding applied ways enters
entries-init c = refl
