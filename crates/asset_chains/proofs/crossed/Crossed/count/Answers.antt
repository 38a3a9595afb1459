use Rattle.std.proofs.Common.{rules}
use Rattle.asset_chains.proofs.crossed.Crossed.count.Goals as goal

pub returns-in-Row : goal.returns-in-Row
returns-in-Row g c = search rules

pub returns-in-Column : goal.returns-in-Column
returns-in-Column g c = search rules
