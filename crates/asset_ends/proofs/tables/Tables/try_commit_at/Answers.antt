use Rattle.std.proofs.Common.{rules}
use Rattle.asset_ends.proofs.tables.Tables.try_commit_at.Goals as goal

pub try_commit_alone-requires-clause-alone : goal.try_commit_alone-requires-clause-alone
try_commit_alone-requires-clause-alone c = search rules
