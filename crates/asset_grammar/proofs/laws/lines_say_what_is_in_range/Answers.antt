use Rattle.asset_grammar.proofs.ParsedLemmas.{asked_writable, object_writable}
use Rattle.asset_grammar.proofs.laws.lines_say_what_is_in_range.Goals as goal

pub returns-clause-step : goal.returns-clause-step
returns-clause-step c = asked_writable

pub returns-clause-object : goal.returns-clause-object
returns-clause-object c = object_writable
