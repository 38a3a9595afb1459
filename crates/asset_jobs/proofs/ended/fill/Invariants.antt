use Rattle.std.proofs.Common.{◌≡◌, take, map}
use Rattle.asset_names.specs.declared.names.Txn.{Txn}
use Rattle.asset_jobs.specs.Ended.{known_in, row_by}
use Rattle.asset_jobs.proofs.ended.fill.Given as goal

-- the names so far have their rows
abbrev pub invariant-names : goal.invariant-names
invariant-names l = l.rows.items ≡ map (λ (t : Txn). row_by (known_in l.known.entries t) t) (take l.t-index l.names)
