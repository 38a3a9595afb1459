use Rattle.asset_objects.specs.Placed.{object_table}
use Rattle.asset_objects.proofs.objects.Objects.open_distinct.Goals as goal

pub returns-clause-visits : goal.returns-clause-visits
unfolding object_table
returns-clause-visits c = c.in_ok-table.ensures.visits
