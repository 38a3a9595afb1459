use Rattle.std.proofs.Common.{rules}
use Rattle.asset_jobs.specs.Ended.{text_of}
use Rattle.asset_jobs.proofs.ended.text_of.Goals as goal

pub returns-in-Unsettled : goal.returns-in-Unsettled
unfolding text_of
returns-in-Unsettled c = search rules
