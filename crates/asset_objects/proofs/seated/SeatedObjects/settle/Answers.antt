use Rattle.std.proofs.Common.{◌≡◌, ℕ, ◌+◌, ◌*◌, ◌≤◌, List, true, eqb, ap, sym, subst, ◌∙◌, arith}
use Rattle.std.specs.Prelude.{ℤ}
use Rattle.asset_records.specs.Listed.{lists_in}
use Rattle.asset_objects.specs.Cells.{cells, settled, change_each, standing, updates_by}
use Rattle.asset_objects.specs.Placed.{object_table, cell_at, objects_in}
use Rattle.asset_objects.proofs.PlacedLemmas.{each_changed, updates_shown, updates_placed}
use Rattle.asset_objects.proofs.seated.SeatedObjects.settle.Goals as goal

pub returns-clause-cells : goal.returns-clause-cells
returns-clause-cells c =
    let placed = c.self.inside.placed in
    let after = (lists_in c.settle-self-inside.new.records) in
    let settles : (i : ℕ) → cell_at placed.values.items after i ≡ settled (λ n. eqb n c.args.t.t.0) (cell_at placed.values.items (lists_in placed.records) i) =
    subst (λ (values : List ℤ). (i : ℕ) → cell_at values after i ≡ settled (λ n. eqb n c.args.t.t.0) (cell_at values (lists_in placed.records) i)) c.deref.ensures.value c.settle-self-inside.ensures.cells in
    each_changed (settled (λ n. eqb n c.args.t.t.0)) placed.objects.keys placed.values.items placed.values.items (lists_in placed.records) after
    c.self.inside.reserved c.self.inside.reserved c.self.inside.visits c.settle-self-inside.result settles
    ∙ ap (λ table. change_each (settled (λ n. eqb n c.args.t.t.0)) (cells table)) (ap objects_in c.self.view_is)

pub returns-clause-visits : goal.returns-clause-visits
unfolding standing object_table updates_by
returns-clause-visits c =
    let placed = c.self.inside.placed in
    let after = (lists_in c.settle-self-inside.new.records) in
    let shown = updates_shown (λ n. true) placed.objects.keys placed.values.items (lists_in placed.records) c.self.inside.reserved c.self.inside.visits (objects_in c.args.self.now) (ap objects_in c.self.view_is) c.self.invariant.many in
    let left = updates_placed (λ n. true) placed.objects.keys placed.values.items after c.self.inside.reserved c.settle-self-inside.result (c.settle-self-inside.ensures.lists ∙ c.self.invariant.many) in
    subst (λ (n : ℕ). c.settle-self-inside.result + 4 * n ≤ 4 * updates_by (λ n. true) (objects_in c.args.self.now).rows) (sym left) (omega (arith, shown, c.settle-self-inside.ensures.visits))
