use Rattle.std.proofs.Common.{sym, ap, ◌∙◌, arith}
use Rattle.std.proofs.lemmas.Bool.{true≢false}
use Rattle.asset_objects.specs.Cells.{ObjectTable}
use Rattle.asset_objects.specs.Placed.{object_table}
use Rattle.asset_objects.proofs.objects.Objects.reserve_write.Goals as goal

-- a reservation of the table by name is one of the table by seat
pub invariant_of-self : goal.invariant_of-self
unfolding object_table
invariant_of-self c =
    let spared = c.self.invariant in
    let made = c.add_seats.ensures in
    let same = ap (λ (o : ObjectTable). o.reserved) made.shown in
    record {
      tied = made.tied;
      columns = made.columns;
      spare = λ some. omega (arith, spared.spare (omega (arith, some, made.few.items)), made.few.items, made.slots);
      room = λ reserved. omega (arith, spared.room (sym same ∙ reserved), made.few.items, made.slots);
    }

pub returns-in_err-add_seats-clause-standing : goal.returns-in_err-add_seats-clause-standing
unfolding object_table
returns-in_err-add_seats-clause-standing c = λ reserved.
    absurd (true≢false (sym (c.in_err-add_seats.ensures.standing (c.self.invariant.room (ap (λ (o : ObjectTable). o.reserved) c.self.view_is ∙ reserved)))))

pub returns-clause-reserved : goal.returns-clause-reserved
unfolding object_table
returns-clause-reserved c = c.reserve_write.ensures.reserved

pub returns-clause-standing : goal.returns-clause-standing
unfolding object_table
returns-clause-standing c = λ reserved. c.reserve_write.ensures.standing (ap (λ (o : ObjectTable). o.reserved) (c.add_seats.ensures.shown ∙ c.self.view_is) ∙ reserved)

pub returns-clause-visits : goal.returns-clause-visits
unfolding object_table
returns-clause-visits c = c.reserve_write.ensures.visits ∙ ap (λ (o : ObjectTable). o.visits) (c.add_seats.ensures.shown ∙ c.self.view_is)
