use Rattle.std.proofs.Common.{rules}
use Rattle.asset_runner.proofs.arrival.Arrival.ask_again.Goals as goal

pub returns-in-Some-Answer : goal.returns-in-Some-Answer
returns-in-Some-Answer g c = search rules

pub returns-in-Called-default-true : goal.returns-in-Called-default-true
returns-in-Called-default-true g c = search rules

pub returns-in-Called-default-true-2 : goal.returns-in-Called-default-true-2
returns-in-Called-default-true-2 g c = search rules
