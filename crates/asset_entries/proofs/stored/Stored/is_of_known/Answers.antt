use Rattle.std.proofs.Common.{rules}
use Rattle.asset_entries.specs.Stored.{entry_of, reply_of_name, open_entry}
use Rattle.asset_entries.specs.Knowing.{is_of_known, is_of_one}
use Rattle.asset_entries.proofs.KnowingLemmas.{known_about, opened_is_not}
use Rattle.asset_entries.proofs.stored.Stored.is_of_known.Goals as goal

pub returns-in-Read : goal.returns-in-Read
unfolding entry_of reply_of_name is_of_known is_of_one
returns-in-Read c = search (known_about, rules)

pub returns-in-Write : goal.returns-in-Write
unfolding entry_of reply_of_name is_of_known is_of_one
returns-in-Write c = search (known_about, rules)

pub returns-in-Add : goal.returns-in-Add
unfolding entry_of reply_of_name is_of_known is_of_one
returns-in-Add c = search (known_about, rules)

pub returns-in-Begin : goal.returns-in-Begin
unfolding entry_of reply_of_name is_of_known is_of_one
returns-in-Begin c = search (known_about, rules)

pub returns-in-Complete : goal.returns-in-Complete
unfolding entry_of reply_of_name is_of_known is_of_one
returns-in-Complete c = search (known_about, rules)

pub returns-in-Commit : goal.returns-in-Commit
unfolding entry_of reply_of_name is_of_known is_of_one
returns-in-Commit c = search (known_about, rules)

pub returns-in-Abort : goal.returns-in-Abort
unfolding entry_of reply_of_name is_of_known is_of_one
returns-in-Abort c = search (known_about, rules)

pub returns-in-PermitAny : goal.returns-in-PermitAny
unfolding entry_of open_entry
returns-in-PermitAny c = search (opened_is_not, rules)
