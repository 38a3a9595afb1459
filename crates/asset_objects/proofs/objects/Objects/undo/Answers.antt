use Rattle.std.proofs.Common.{◌≤◌, ◌*◌, eqb, ap, subst, ◌∙◌, arith, rules}
use Rattle.asset_names.specs.declared.names.Txn.{Txn}
use Rattle.asset_objects.specs.Cells.{ObjectTable, updates_by}
use Rattle.asset_objects.specs.Placed.{object_table, objects_in}
use Rattle.asset_objects.proofs.objects.Objects.undo.Goals as goal

pub returns-in-Some-clause-visits : goal.returns-in-Some-clause-visits
unfolding object_table
returns-in-Some-clause-visits c = rw (← c.self.view_is) (subst (λ (u : Txn). c.undo.new.self.visits ≤ 4 * updates_by (λ n. eqb n u.0) (objects_in c.self.inside.table).rows) c.in-Some.ensures.found.1 c.undo.ensures.visits)

pub returns-in-Some-clause-reserved : goal.returns-in-Some-clause-reserved
unfolding object_table
returns-in-Some-clause-reserved c = λ reserved. c.undo.ensures.reserved ∙ ap (λ (o : ObjectTable). o.reserved) c.self.view_is ∙ reserved

pub returns-in-None-clause-visits : goal.returns-in-None-clause-visits
unfolding object_table
returns-in-None-clause-visits c = omega (arith, c.pass_over.ensures.visits)

pub returns-in-None-clause-reserved : goal.returns-in-None-clause-reserved
unfolding object_table
returns-in-None-clause-reserved c = λ reserved. c.pass_over.ensures.reserved ∙ ap (λ (o : ObjectTable). o.reserved) c.self.view_is ∙ reserved

pub returns-in-Some-clause-cells : goal.returns-in-Some-clause-cells
returns-in-Some-clause-cells c = search rules
