use Rattle.std.proofs.Common.{rules}
use Rattle.asset_reasons.proofs.reasons.Mistake.bare.Goals as goal

pub returns-clause-reason : goal.returns-clause-reason
returns-clause-reason c = search rules
