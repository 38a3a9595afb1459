use Rattle.std.proofs.Common.{rules}
use Rattle.asset_reports.proofs.history_report.push_undead_at.Goals as goal

pub returns-then-is_dead : goal.returns-then-is_dead
returns-then-is_dead c = search rules
