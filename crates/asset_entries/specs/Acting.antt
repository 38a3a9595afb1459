-- Whom an entry acts on.
use Rattle.asset_names.specs.declared.names.Txn.{Txn}
use Rattle.asset_names.specs.Steps.{Entry}
use Rattle.asset_names.specs.Groups.{actor, partner}

-- the two transactions that the entry's step acts on, which are one if it acts on one
abbrev pub both_of : Entry → Txn × Txn
both_of entry = (actor entry.0, partner entry.0)
