use Rattle.std.proofs.Common.{rules}
use Rattle.asset_cli.proofs.reporting.serial_end.Goals as goal

pub returns-else-is_there : goal.returns-else-is_there
returns-else-is_there c = search rules
