use Rattle.asset_laws.proofs.SourceLemmas.{alone_source, source_gives, source_written, added_written}
use Rattle.asset_laws.proofs.deletion.alone_reads_own_or_committed.Goals as goal

pub returns-clause-alone : goal.returns-clause-alone
returns-clause-alone c = alone_source

pub returns-clause-sourced : goal.returns-clause-sourced
returns-clause-sourced c = source_gives

pub returns-clause-written : goal.returns-clause-written
returns-clause-written c = source_written

pub returns-clause-added : goal.returns-clause-added
returns-clause-added c = added_written
