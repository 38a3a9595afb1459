use Rattle.std.proofs.Common.{rules}
use Rattle.asset_entries.specs.Stored.{sets_after, entry_of, open_entry, delegate_entry}
use Rattle.asset_entries.proofs.OpenedLemmas.{opened_sets}
use Rattle.asset_entries.proofs.stored_set.copy_set.Goals as goal

pub returns-in-Delegate-clause-sets : goal.returns-in-Delegate-clause-sets
unfolding sets_after entry_of delegate_entry
returns-in-Delegate-clause-sets c = search rules

pub returns-in-PermitAny-clause-sets : goal.returns-in-PermitAny-clause-sets
unfolding entry_of open_entry
returns-in-PermitAny-clause-sets c = search (opened_sets, rules)
