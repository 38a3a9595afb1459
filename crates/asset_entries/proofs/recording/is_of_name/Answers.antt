use Rattle.std.proofs.Common.{rules}
use Rattle.asset_entries.proofs.recording.is_of_name.Goals as goal

pub returns-then-eq-clause-same : goal.returns-then-eq-clause-same
returns-then-eq-clause-same c = search rules
