use Rattle.std.proofs.Common.{rules}
use Rattle.asset_cli.proofs.reporting.push_report.Goals as goal

pub returns-in_ok-push_groups-in-Groups-clause-text : goal.returns-in_ok-push_groups-in-Groups-clause-text
returns-in_ok-push_groups-in-Groups-clause-text c = search rules
