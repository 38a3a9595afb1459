use Rattle.std.proofs.Common.{rules}
use Rattle.asset_audit.proofs.checking.is_good.Goals as goal

pub returns-then-is_entry-clause-good : goal.returns-then-is_entry-clause-good
returns-then-is_entry-clause-good g c = search rules
