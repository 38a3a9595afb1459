use Rattle.std.proofs.Common.{◌≡◌, None, take}
use Rattle.asset_names.specs.declared.names.Txn.{Txn}
use Rattle.asset_jobs.specs.Ended.{known_in, last_end}
use Rattle.asset_jobs.proofs.ended.note_ends.Given as goal

-- the ends so far are noted
abbrev pub invariant-ends : goal.invariant-ends
invariant-ends l = (t : Txn) → known_in l.known.entries t ≡ last_end None (take l.end-index l.ends) t
