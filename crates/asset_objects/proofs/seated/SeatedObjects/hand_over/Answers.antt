use Rattle.std.proofs.Common.{eqb, ap, ◌∙◌, arith}
use Rattle.asset_names.specs.InSet.{in_set}
use Rattle.asset_records.specs.Listed.{lists_in}
use Rattle.asset_objects.specs.Cells.{cells, handed_cell, change_where}
use Rattle.asset_objects.specs.Placed.{object_table, objects_in}
use Rattle.asset_objects.proofs.PlacedLemmas.{updates_shown}
use Rattle.asset_objects.proofs.HandLemmas.{where_handed, updated_on}
use Rattle.asset_objects.proofs.seated.SeatedObjects.hand_over.Goals as goal

pub returns-clause-cells : goal.returns-clause-cells
returns-clause-cells c =
    let placed = c.self.inside.placed in
    where_handed (in_set c.args.objects.now) c.args.giver.t.0 c.args.taker.t.0 placed.objects.keys placed.values.items (lists_in placed.records) (lists_in c.hand_over-self-inside.new.records) c.self.inside.reserved c.self.inside.visits c.hand_over-self-inside.result
    c.hand_over-self-inside.ensures.lists
    ∙ ap (λ table. change_where (in_set c.args.objects.now) (handed_cell c.args.giver.t.0 c.args.taker.t.0) (cells table)) (ap objects_in c.self.view_is)

pub returns-clause-counted : goal.returns-clause-counted
unfolding object_table
returns-clause-counted c = λ apart x cell there among wrote.
    let placed = c.self.inside.placed in
    let on_object = updated_on placed.objects.keys placed.values.items (lists_in placed.records) c.self.inside.reserved c.self.inside.visits (objects_in c.args.self.now) c.args.giver.t.0 x cell (ap objects_in c.self.view_is) there wrote in
    c.hand_over-self-inside.ensures.counted apart x on_object.0 on_object.1 among on_object.2

pub returns-clause-visits : goal.returns-clause-visits
unfolding object_table
returns-clause-visits c =
    let placed = c.self.inside.placed in
    let shown = updates_shown (λ n. eqb n c.args.giver.t.0) placed.objects.keys placed.values.items (lists_in placed.records) c.self.inside.reserved c.self.inside.visits (objects_in c.args.self.now) (ap objects_in c.self.view_is) c.self.invariant.many in
    omega (arith, shown, c.hand_over-self-inside.ensures.visits)
