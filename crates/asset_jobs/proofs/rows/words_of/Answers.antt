use Rattle.std.proofs.Common.{rules}
use Rattle.asset_jobs.specs.Texts.{end_text}
use Rattle.asset_jobs.proofs.rows.words_of.Goals as goal

pub returns-in-Unsettled : goal.returns-in-Unsettled
unfolding end_text
returns-in-Unsettled c = search rules
