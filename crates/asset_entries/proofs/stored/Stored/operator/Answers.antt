use Rattle.std.proofs.Common.{rules}
use Rattle.asset_entries.proofs.OperatingLemmas.{opened_operates}
use Rattle.asset_entries.specs.Operating.{operator_of}
use Rattle.asset_entries.specs.Stored.{entry_of, open_entry, reply_about}
use Rattle.asset_entries.proofs.stored.Stored.operator.Goals as goal

pub returns-in-PermitAny : goal.returns-in-PermitAny
unfolding entry_of open_entry
returns-in-PermitAny c = search (opened_operates, rules)

pub returns-in-Value : goal.returns-in-Value
unfolding operator_of entry_of reply_about
returns-in-Value c = λ sets. search rules
