use Rattle.std.proofs.Common.{◌≤◌, ◌*◌, eqb, ap, subst, ◌∙◌, arith}
use Rattle.asset_names.specs.declared.names.Txn.{Txn}
use Rattle.asset_objects.specs.Cells.{ObjectTable, updates_by}
use Rattle.asset_objects.specs.Placed.{object_table, objects_in}
use Rattle.asset_objects.proofs.objects.Objects.hand_over.Goals as goal

pub seat_for-to-requires-clause-spare : goal.seat_for-to-requires-clause-spare
seat_for-to-requires-clause-spare c =
    let some = c.few_seats.ensures.some c.in-Some.from.at c.in-Some.ensures.found.2 in
    omega (arith, c.self.invariant.spare (omega (arith, some)))

pub returns-in-Some-clause-counted : goal.returns-in-Some-clause-counted
unfolding object_table
returns-in-Some-clause-counted c =
    let giver = c.in-Some.ensures.found.1 in
    let taker = c.seat_for-to.ensures.sits.1 in
    rw (← c.self.view_is, ← giver, ← taker) c.hand_over.ensures.counted

pub returns-in-Some-clause-visits : goal.returns-in-Some-clause-visits
unfolding object_table
returns-in-Some-clause-visits c =
    rw (← c.self.view_is) (subst (λ (u : Txn). c.hand_over.new.self.visits ≤ 4 * updates_by (λ n. eqb n u.0) (objects_in c.self.inside.table).rows) c.in-Some.ensures.found.1 c.hand_over.ensures.visits)

pub returns-in-Some-clause-reserved : goal.returns-in-Some-clause-reserved
unfolding object_table
returns-in-Some-clause-reserved c = λ reserved. c.hand_over.ensures.reserved ∙ ap (λ (o : ObjectTable). o.reserved) c.self.view_is ∙ reserved

pub returns-in-None-clause-visits : goal.returns-in-None-clause-visits
unfolding object_table
returns-in-None-clause-visits c = omega (arith, c.pass_over.ensures.visits)

pub returns-in-None-clause-reserved : goal.returns-in-None-clause-reserved
unfolding object_table
returns-in-None-clause-reserved c = λ reserved. c.pass_over.ensures.reserved ∙ ap (λ (o : ObjectTable). o.reserved) c.self.view_is ∙ reserved
