use Rattle.std.proofs.Common.{Err, ap, arith, rules}
use Rattle.asset_scripts.specs.Runs.{GaveAll}
use Rattle.asset_jobs.specs.Reads.{FailsToRead}
use Rattle.asset_jobs.proofs.ReadLemmas.{fails_to_say}
use Rattle.asset_jobs.proofs.reading.read_jobs.Goals as goal

pub returns-in-Ok-clause-fault : goal.returns-in-Ok-clause-fault
returns-in-Ok-clause-fault g c =
    let read = c.in-Ok.ensures in
    let all : GaveAll g.R.Read.remaining c.args.input.now c.read_all.new.input c.in-Ok.bytes.items = record { gave = read.gave; end = read.end; limit = omega (arith, read.limit); sound = read.sound; counted = omega (arith, read.counted) } in
    fails_to_say _ _ _ c.in-Ok.bytes.items _ all (rw c.deref.ensures.value at c.parse_jobs.ensures.fails)

pub returns-in-Err-Read-clause-fault : goal.returns-in-Err-Read-clause-fault
unfolding FailsToRead
returns-in-Err-Read-clause-fault g c = c.in-Err-Read.ensures.fault (ap Err c.in-Err-Read.field-0-is)

pub returns-in-Err : goal.returns-in-Err
unfolding FailsToRead
returns-in-Err g c = search rules
