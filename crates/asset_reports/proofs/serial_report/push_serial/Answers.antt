use Rattle.std.proofs.Common.{rules}
use Rattle.asset_reports.specs.Reports.{serial_text}
use Rattle.asset_reports.proofs.serial_report.push_serial.Goals as goal

pub returns-in-Ok-clause-text : goal.returns-in-Ok-clause-text
unfolding serial_text
returns-in-Ok-clause-text c = search rules
