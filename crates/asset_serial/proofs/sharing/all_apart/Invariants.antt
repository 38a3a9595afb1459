use Rattle.std.proofs.Common.{◌≡◌, take, reverse}
use Rattle.std.specs.List.{list_all}
use Rattle.asset_names.specs.Arrows.{lists}
use Rattle.asset_history.specs.Uses.{partners}
use Rattle.asset_laws.specs.Serial.{is_apart}
use Rattle.asset_serial.proofs.sharing.all_apart.Given as goal

-- what the first entries say
abbrev pub invariant-entries : goal.invariant-entries
invariant-entries l = l.apart ≡ list_all (is_apart (lists l.names.keys)) (partners (reverse (take l.i (reverse l.history.entries))))
