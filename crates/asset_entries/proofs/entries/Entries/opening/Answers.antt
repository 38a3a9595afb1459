use Rattle.std.proofs.Common.{rules}
use Rattle.asset_entries.proofs.entries.Entries.opening.Goals as goal

pub returns-clause-given : goal.returns-clause-given
returns-clause-given c = search rules

pub returns-clause-different : goal.returns-clause-different
returns-clause-different c = search rules
