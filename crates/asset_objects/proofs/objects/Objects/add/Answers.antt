use Rattle.std.proofs.Common.{w64, sym, ap, ◌∙◌, arith}
use Rattle.std.proofs.lemmas.Int.{to_z-of_z}
use Rattle.std.proofs.lemmas.Bool.{true≢false}
use Rattle.asset_names.proofs.NumberLemmas.{number_reads}
use Rattle.asset_objects.specs.Cells.{ObjectTable}
use Rattle.asset_objects.specs.Placed.{object_table}
use Rattle.asset_objects.proofs.objects.Objects.add.Goals as goal

pub add-requires-clause-reserved : goal.add-requires-clause-reserved
unfolding object_table
add-requires-clause-reserved c = ap (λ (o : ObjectTable). o.reserved) c.self.view_is ∙ c.requires.reserved

pub seat_for-owner-requires-clause-spare : goal.seat_for-owner-requires-clause-spare
unfolding object_table
seat_for-owner-requires-clause-spare c = omega (arith, c.self.invariant.room (ap (λ (o : ObjectTable). o.reserved) c.self.view_is ∙ c.requires.reserved))

pub add-requires-clause-exists : goal.add-requires-clause-exists
add-requires-clause-exists c = (number_reads c.self.inside.table.objects c.args.x.0 c.unwrap-number.result (sym c.number.ensures.number ∙ c.unwrap-number.ensures)).0

pub invariant_of-self : goal.invariant_of-self
unfolding object_table
invariant_of-self c =
    let spared = c.self.invariant in
    let room = spared.room (ap (λ (o : ObjectTable). o.reserved) c.self.view_is ∙ c.requires.reserved) in
    record {
      tied = c.add.ensures.tied;
      columns = λ d within. omega (arith, spared.columns d (omega (arith, within, c.seat_for-owner.ensures.slots)), c.add.ensures.columns);
      spare = λ _. omega (arith, room, c.add.ensures.len, c.seat_for-owner.ensures.slots);
      room = λ reserved. absurd (true≢false (sym reserved ∙ c.add.ensures.reserved));
    }

pub returns-clause-cells : goal.returns-clause-cells
returns-clause-cells c = rw (← c.seat_for-owner.ensures.sits.1, ← c.self.view_is) (rw (to_z-of_z w64 c.args.amount c.ranges.amount) at c.add.ensures.cells c.args.x.0 (sym c.number.ensures.number ∙ c.unwrap-number.ensures))

pub returns-clause-reserved : goal.returns-clause-reserved
unfolding object_table
returns-clause-reserved c = c.add.ensures.reserved

pub returns-clause-visits : goal.returns-clause-visits
unfolding object_table
returns-clause-visits c = c.add.ensures.visits ∙ ap (λ (o : ObjectTable). o.visits) c.self.view_is
