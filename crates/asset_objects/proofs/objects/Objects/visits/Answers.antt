use Rattle.std.proofs.Common.{ap, ◌∙◌}
use Rattle.asset_objects.specs.Cells.{ObjectTable}
use Rattle.asset_objects.specs.Placed.{object_table}
use Rattle.asset_objects.proofs.objects.Objects.visits.Goals as goal

pub returns : goal.returns
unfolding object_table
returns c = c.visits.ensures ∙ ap (λ (o : ObjectTable). o.visits) c.self.view_is
