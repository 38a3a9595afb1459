use Rattle.asset_printing.proofs.PlainLemmas.{object_one_line, step_one_line, step_short}
use Rattle.asset_printing.proofs.SaidLemmas.{object_said, step_said}
use Rattle.asset_printing.proofs.laws.printed_lines_say_what_was_printed.Goals as goal

pub returns-clause-step : goal.returns-clause-step
returns-clause-step c = step_said

pub returns-clause-one_line : goal.returns-clause-one_line
returns-clause-one_line c = step_one_line

pub returns-clause-short : goal.returns-clause-short
returns-clause-short c = step_short

pub returns-clause-object : goal.returns-clause-object
returns-clause-object c = object_said

pub returns-clause-one_object_line : goal.returns-clause-one_object_line
returns-clause-one_object_line c = object_one_line
