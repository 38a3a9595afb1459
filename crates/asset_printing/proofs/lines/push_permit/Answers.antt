use Rattle.asset_printing.proofs.StepLemmas.{permit_reads}
use Rattle.asset_printing.proofs.lines.push_permit.Goals as goal
use Rattle.asset_names.proofs.Common.{on_ok_two}

pub returns-clause-reads : goal.returns-clause-reads
returns-clause-reads c =
    on_ok_two c.push_set.result
    (permit_reads c.args.giver c.args.taker c.args.obs.now c.args.ops c.push_two.ensures.first c.push_two.ensures.second c.ops_word.ensures.some)
    c.push_set.ensures.reads c.push_set.ensures.word
