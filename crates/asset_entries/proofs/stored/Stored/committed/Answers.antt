use Rattle.std.proofs.Common.{rules}
use Rattle.asset_entries.proofs.OpenedLemmas.{opened_commits}
use Rattle.asset_entries.specs.Committing.{committer}
use Rattle.asset_entries.specs.Stored.{entry_of, open_entry, reply_of_name, reply_about}
use Rattle.asset_entries.proofs.stored.Stored.committed.Goals as goal

pub returns-in_default-tag : goal.returns-in_default-tag
unfolding committer entry_of reply_of_name reply_about
returns-in_default-tag c = search rules

pub returns-in-PermitAny : goal.returns-in-PermitAny
unfolding entry_of open_entry
returns-in-PermitAny c = search (opened_commits, rules)
