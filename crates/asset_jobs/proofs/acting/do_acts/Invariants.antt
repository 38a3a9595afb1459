use Rattle.std.proofs.Common.{◌≡◌, true, take}
use Rattle.asset_jobs.specs.Acts.{DoesActs}
use Rattle.asset_jobs.proofs.acting.do_acts.Given as goal

-- the acts so far are all done, by the same transaction
abbrev pub invariant-acts : goal.invariant-acts
invariant-acts g l = record {
  name : l.tx.name ≡ l.fn.tx.name;
  manager : l.tx.manager ≡ l.fn.tx.manager;
  did : DoesActs l.fn.tx.name (take l.next-index l.acts) l.fn.tx.list.calls true l.tx.list.calls;
}
