use Rattle.asset_laws.proofs.GroupLemmas.{without_legal, stays_alike, undead_stays}
use Rattle.asset_laws.proofs.deletion.history_without_dead_groups_is_legal.Goals as goal

pub returns-clause-legal : goal.returns-clause-legal
returns-clause-legal c = without_legal

pub returns-clause-unsplit : goal.returns-clause-unsplit
returns-clause-unsplit c = stays_alike

pub returns-clause-undead : goal.returns-clause-undead
returns-clause-undead c = undead_stays
