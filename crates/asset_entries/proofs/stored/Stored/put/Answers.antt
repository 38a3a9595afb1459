use Rattle.std.proofs.Common.{rules}
use Rattle.asset_entries.specs.Stored.{entry_of, value_stored, delegate_entry, has_set}
use Rattle.asset_entries.proofs.stored.Stored.put.Goals as goal

pub returns-in-Delegate : goal.returns-in-Delegate
unfolding entry_of value_stored delegate_entry has_set
returns-in-Delegate c = search rules
