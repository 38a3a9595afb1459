use Rattle.std.proofs.Common.{ap, ◌∙◌, arith, rules}
use Rattle.asset_objects.specs.Cells.{ObjectTable}
use Rattle.asset_objects.specs.Placed.{object_table}
use Rattle.asset_objects.proofs.objects.Objects.settle.Goals as goal

pub returns-in-Some-clause-visits : goal.returns-in-Some-clause-visits
unfolding object_table
returns-in-Some-clause-visits c = rw (← c.self.view_is) c.settle.ensures.visits

pub returns-in-Some-clause-reserved : goal.returns-in-Some-clause-reserved
unfolding object_table
returns-in-Some-clause-reserved c = λ reserved. c.settle.ensures.reserved ∙ ap (λ (o : ObjectTable). o.reserved) c.self.view_is ∙ reserved

pub returns-in-None-clause-visits : goal.returns-in-None-clause-visits
unfolding object_table
returns-in-None-clause-visits c = rw (← c.self.view_is) (omega (arith, c.pass_over.ensures.visits, c.pass_over.ensures.standing))

pub returns-in-None-clause-reserved : goal.returns-in-None-clause-reserved
unfolding object_table
returns-in-None-clause-reserved c = λ reserved. c.pass_over.ensures.reserved ∙ ap (λ (o : ObjectTable). o.reserved) c.self.view_is ∙ reserved

pub returns-in-Some-clause-cells : goal.returns-in-Some-clause-cells
returns-in-Some-clause-cells c = search rules
