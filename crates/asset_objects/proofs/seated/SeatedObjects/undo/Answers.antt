use Rattle.std.proofs.Common.{eqb, ap, ◌∙◌, arith}
use Rattle.asset_records.specs.Listed.{lists_in}
use Rattle.asset_objects.specs.Cells.{cells, undone, change_each}
use Rattle.asset_objects.specs.Placed.{object_table, objects_in}
use Rattle.asset_objects.proofs.PlacedLemmas.{each_changed, updates_shown}
use Rattle.asset_objects.proofs.seated.SeatedObjects.undo.Goals as goal

pub returns-clause-cells : goal.returns-clause-cells
returns-clause-cells c =
    let placed = c.self.inside.placed in
    each_changed (undone (λ n. eqb n c.args.t.t.0)) placed.objects.keys placed.values.items c.undo-self-inside.new.values.items (lists_in placed.records) (lists_in c.undo-self-inside.new.records)
    c.self.inside.reserved c.self.inside.reserved c.self.inside.visits c.undo-self-inside.result c.undo-self-inside.ensures.cells
    ∙ ap (λ table. change_each (undone (λ n. eqb n c.args.t.t.0)) (cells table)) (ap objects_in c.self.view_is)

pub returns-clause-visits : goal.returns-clause-visits
unfolding object_table
returns-clause-visits c =
    let placed = c.self.inside.placed in
    let shown = updates_shown (λ n. eqb n c.args.t.t.0) placed.objects.keys placed.values.items (lists_in placed.records) c.self.inside.reserved c.self.inside.visits (objects_in c.args.self.now) (ap objects_in c.self.view_is) c.self.invariant.many in
    omega (arith, shown, c.undo-self-inside.ensures.visits)
