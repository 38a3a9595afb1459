use Rattle.asset_laws.proofs.GroupLemmas.{committed_undead, dead_alike}
use Rattle.asset_laws.proofs.deletion.dead_groups_have_not_committed.Goals as goal

pub returns-clause-uncommitted : goal.returns-clause-uncommitted
returns-clause-uncommitted c = committed_undead

pub returns-clause-together : goal.returns-clause-together
returns-clause-together c = dead_alike
