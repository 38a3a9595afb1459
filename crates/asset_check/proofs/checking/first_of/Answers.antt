use Rattle.std.proofs.Common.{rules}
use Rattle.asset_check.specs.Checking.{or_this, or_first}
use Rattle.asset_check.proofs.checking.first_of.Goals as goal

pub returns-in-Some : goal.returns-in-Some
unfolding or_this or_first
returns-in-Some c = search rules
