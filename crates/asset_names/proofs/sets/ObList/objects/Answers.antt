use Rattle.std.proofs.Common.{rules}
use Rattle.asset_names.proofs.sets.ObList.objects.Goals as goal

pub returns-clause-listed : goal.returns-clause-listed
returns-clause-listed c = search rules

pub returns-clause-some : goal.returns-clause-some
returns-clause-some c = search rules

pub returns-clause-few : goal.returns-clause-few
returns-clause-few c = search rules

pub returns-clause-rising : goal.returns-clause-rising
returns-clause-rising c = search rules
