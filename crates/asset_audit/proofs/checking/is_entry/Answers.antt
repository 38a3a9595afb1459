use Rattle.std.proofs.Common.{rules}
use Rattle.asset_audit.proofs.checking.is_entry.Goals as goal

pub returns : goal.returns
returns c = search rules
