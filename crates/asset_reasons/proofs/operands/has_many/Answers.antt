use Rattle.std.proofs.Common.{rules}
use Rattle.asset_reasons.proofs.operands.has_many.Goals as goal

pub returns-then-count-eq-MOST_OBJECTS : goal.returns-then-count-eq-MOST_OBJECTS
returns-then-count-eq-MOST_OBJECTS c = search rules
