use Rattle.std.proofs.Common.{rules}
use Rattle.asset_jobs.specs.Reads.{FailsToWrite}
use Rattle.asset_jobs.proofs.ReadLemmas.{fails_to_write}
use Rattle.asset_jobs.proofs.writing.write_jobs.Goals as goal

pub returns-in-Ok-clause-stopped : goal.returns-in-Ok-clause-stopped
returns-in-Ok-clause-stopped g c =
    let prefix = rw (c.as_bytes.ensures.value, c.in-Ok.ensures, c.new-text.ensures.bytes) at c.write_all.ensures.prefix in
    fails_to_write _ _ _ _ _ prefix c.write_all.ensures.failed c.write_all.ensures.writes_only

pub returns-clause-stopped : goal.returns-clause-stopped
unfolding FailsToWrite
returns-clause-stopped g c = search rules
