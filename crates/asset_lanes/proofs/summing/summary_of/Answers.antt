use Rattle.std.proofs.Common.{rules}
use Rattle.asset_lanes.specs.Summaries.{summary_of}
use Rattle.asset_lanes.proofs.summing.summary_of.Goals as goal

pub returns : goal.returns
unfolding summary_of
returns c = search rules
