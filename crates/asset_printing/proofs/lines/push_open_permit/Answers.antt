use Rattle.std.proofs.Common.{arith}
use Rattle.std.proofs.lemmas.Grind.{common_steps}
use Rattle.asset_printing.specs.Printed.{step_text, step_words}
use Rattle.asset_printing.proofs.StepLemmas.{open_reads}
use Rattle.asset_printing.proofs.lines.push_open_permit.Goals as goal
use Rattle.asset_names.proofs.Common.{on_ok_two}

pub returns-clause-reads : goal.returns-clause-reads
returns-clause-reads c =
    on_ok_two c.push_objects.result
    (open_reads c.args.giver c.args.obs.now c.args.ops c.push_one.ensures.small c.ops_word.ensures.some)
    c.push_objects.ensures.reads c.push_objects.ensures.word

pub returns-clause-text : goal.returns-clause-text
unfolding step_text step_words
returns-clause-text c = grind (arith, common_steps)
