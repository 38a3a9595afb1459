use Rattle.asset_printing.proofs.SetLemmas.{set_reads_all, set_lacks_all}
use Rattle.asset_printing.proofs.sets.push_set.Goals as goal
use Rattle.asset_names.proofs.Common.{always_ok}

pub returns-in-All-clause-reads : goal.returns-in-All-clause-reads
returns-in-All-clause-reads c = always_ok c.push_str.result (rw c.in-All.is set_reads_all)

pub returns-in-All-clause-word : goal.returns-in-All-clause-word
returns-in-All-clause-word c = always_ok c.push_str.result (rw c.in-All.is set_lacks_all)
