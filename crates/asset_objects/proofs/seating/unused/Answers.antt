use Rattle.std.proofs.Common.{rules}
use Rattle.asset_objects.proofs.seating.unused.Goals as goal

pub returns-then-is_unused-clause-unused : goal.returns-then-is_unused-clause-unused
returns-then-is_unused-clause-unused c = search rules
