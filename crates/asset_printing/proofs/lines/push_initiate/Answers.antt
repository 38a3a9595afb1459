use Rattle.asset_printing.proofs.StepLemmas.{child_reads, initiate_reads}
use Rattle.asset_printing.proofs.lines.push_initiate.Goals as goal
use Rattle.asset_names.proofs.Common.{always_ok}

pub returns-in-None-clause-reads : goal.returns-in-None-clause-reads
returns-in-None-clause-reads c = rw c.in-None.is (always_ok c.push_one.result (initiate_reads c.args.t c.push_one.ensures.small))

pub returns-in-Some-clause-reads : goal.returns-in-Some-clause-reads
returns-in-Some-clause-reads c = rw c.in-Some.is (always_ok c.push_two.result (child_reads c.args.t c.in-Some.parent c.push_two.ensures.first c.push_two.ensures.second))
