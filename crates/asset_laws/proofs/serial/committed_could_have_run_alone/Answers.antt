use Rattle.asset_laws.proofs.SerialLemmas.{serial_legal, serial_values}
use Rattle.asset_laws.proofs.SettledLemmas.{settled_values}
use Rattle.asset_laws.proofs.serial.committed_could_have_run_alone.Goals as goal

pub returns-clause-legal : goal.returns-clause-legal
returns-clause-legal c = serial_legal

pub returns-clause-left : goal.returns-clause-left
returns-clause-left c = serial_values

pub returns-clause-settled : goal.returns-clause-settled
returns-clause-settled c = settled_values
