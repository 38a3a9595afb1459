use Rattle.std.proofs.Common.{rules}
use Rattle.asset_permits.proofs.allowers.mark_allowers.Goals as goal

pub returns-then-eq-clause-question : goal.returns-then-eq-clause-question
returns-then-eq-clause-question c = search rules
