use Rattle.asset_cli.proofs.ReportAgainLemmas.{pruned_again, serial_again}
use Rattle.asset_cli.proofs.RoomLemmas.{room_for_all}
use Rattle.asset_cli.proofs.laws.printed_scripts_run_again.Goals as goal

pub returns-clause-pruned : goal.returns-clause-pruned
returns-clause-pruned c = pruned_again

pub returns-clause-serial : goal.returns-clause-serial
returns-clause-serial c = serial_again

pub returns-clause-room : goal.returns-clause-room
returns-clause-room c = room_for_all
