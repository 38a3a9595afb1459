use Rattle.std.proofs.Common.{rules}
use Rattle.asset_entries.specs.Stored.{stored_as}
use Rattle.asset_names.specs.Steps.{value_asked}
use Rattle.asset_entries.proofs.stored.Stored.of.Goals as goal

pub returns-in-Begin : goal.returns-in-Begin
unfolding stored_as value_asked
returns-in-Begin c = search rules

pub returns-in-Read : goal.returns-in-Read
unfolding stored_as value_asked
returns-in-Read c = search rules

pub returns-in-Write : goal.returns-in-Write
unfolding stored_as value_asked
returns-in-Write c = search rules

pub returns-in-Add : goal.returns-in-Add
unfolding stored_as value_asked
returns-in-Add c = search rules

pub returns-in-Complete : goal.returns-in-Complete
unfolding stored_as value_asked
returns-in-Complete c = search rules

pub returns-in-Permit : goal.returns-in-Permit
unfolding stored_as value_asked
returns-in-Permit c = search rules

pub returns-in-Delegate : goal.returns-in-Delegate
unfolding stored_as value_asked
returns-in-Delegate c = search rules

pub returns-in-Depend : goal.returns-in-Depend
unfolding stored_as value_asked
returns-in-Depend c = search rules

pub returns-in-Commit : goal.returns-in-Commit
unfolding stored_as value_asked
returns-in-Commit c = search rules

pub returns-in-Abort : goal.returns-in-Abort
unfolding stored_as value_asked
returns-in-Abort c = search rules

pub returns-in-WaitFor : goal.returns-in-WaitFor
unfolding stored_as value_asked
returns-in-WaitFor c = search rules

pub returns-in-Initiate : goal.returns-in-Initiate
unfolding stored_as value_asked
returns-in-Initiate c = search rules
