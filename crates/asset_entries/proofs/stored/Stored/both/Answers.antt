use Rattle.std.proofs.Common.{rules}
use Rattle.asset_entries.specs.Stored.{entry_of, open_entry}
use Rattle.asset_entries.proofs.OpenedLemmas.{opened_acts}
use Rattle.asset_entries.proofs.stored.Stored.both.Goals as goal

pub returns-in-PermitAny : goal.returns-in-PermitAny
unfolding entry_of open_entry
returns-in-PermitAny c = search (opened_acts, rules)
