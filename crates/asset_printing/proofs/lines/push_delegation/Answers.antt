use Rattle.std.proofs.Common.{◌<◌, ◌^◌, arith, rules}
use Rattle.std.proofs.lemmas.Grind.{common_steps}
use Rattle.asset_names.proofs.Common.{on_ok_two}
use Rattle.asset_printing.specs.Printed.{step_text, step_words}
use Rattle.asset_printing.proofs.StepLemmas.{delegate_reads}
use Rattle.asset_printing.proofs.lines.push_delegation.Goals as goal

pub returns-clause-text : goal.returns-clause-text
unfolding step_text step_words
returns-clause-text c = grind (arith, common_steps)

pub returns-clause-reads : goal.returns-clause-reads
returns-clause-reads c =
    let giver : c.args.giver.0 < 2 ^ 64 = search rules in
    let taker : c.args.taker.0 < 2 ^ 64 = search rules in
    on_ok_two c.push_set.result (delegate_reads c.args.giver c.args.taker c.args.obs.now giver taker) c.push_set.ensures.reads c.push_set.ensures.word
