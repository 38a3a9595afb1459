use Rattle.std.proofs.Common.{arith}
use Rattle.std.proofs.lemmas.Grind.{common_steps}
use Rattle.asset_reports.specs.Sources.{source_word}
use Rattle.asset_reports.proofs.sources_report.push_word.Goals as goal

pub returns-in_ok-push_str-in-Entry : goal.returns-in_ok-push_str-in-Entry
unfolding source_word
returns-in_ok-push_str-in-Entry c = grind (arith, common_steps)
