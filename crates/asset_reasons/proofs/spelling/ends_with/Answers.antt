use Rattle.std.proofs.Common.{rules}
use Rattle.asset_reasons.specs.Spelling.{ends_with}
use Rattle.asset_reasons.proofs.spelling.ends_with.Goals as goal

pub returns : goal.returns
unfolding ends_with
returns c = search rules
