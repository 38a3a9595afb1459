use Rattle.std.proofs.Common.{◌≡◌, take}
use Rattle.std.specs.List.{list_all}
use Rattle.asset_names.specs.Arrows.{lists}
use Rattle.asset_laws.specs.Serial.{is_apart}
use Rattle.asset_meetings.specs.Meetings.{join_arrows}
use Rattle.asset_serial.proofs.sharing.met_apart.Given as goal

-- what the first meetings say
abbrev pub invariant-met : goal.invariant-met
invariant-met l = l.apart ≡ list_all (is_apart (lists l.names.keys)) (join_arrows (take l.k l.met))
