use Rattle.std.proofs.Common.{eqb, sym, ap, ◌∙◌}
use Rattle.std.proofs.lemmas.Bool.{true≢false, false_from_ne_true}
use Rattle.asset_records.specs.Listed.{lists_in, on, HasNone}
use Rattle.asset_records.proofs.HandLemmas.{none_given}
use Rattle.asset_objects.specs.Cells.{cells, undone, settled, handed_cell, change_each, change_where, has_update, standing}
use Rattle.asset_objects.specs.Placed.{ObjectParts, object_table, objects_in}
use Rattle.asset_objects.proofs.EndLemmas.{undone_all, settled_all}
use Rattle.asset_objects.proofs.PlacedLemmas.{each_changed}
use Rattle.asset_objects.proofs.HandLemmas.{where_handed, updated_on}
use Rattle.asset_objects.proofs.seated.SeatedObjects.pass_over.Goals as goal

pub returns-clause-undone : goal.returns-clause-undone
returns-clause-undone c =
    let placed = c.self.inside.placed in
    let lists = lists_in placed.records in
    each_changed (undone (λ n. eqb n c.args.t.0)) placed.objects.keys placed.values.items placed.values.items lists lists c.self.inside.reserved c.self.inside.reserved c.self.inside.visits 0
    (λ i. sym (undone_all c.args.t.0 placed.values.items lists c.has_none.ensures i))
    ∙ ap (λ (p : ObjectParts). change_each (undone (λ n. eqb n c.args.t.0)) (cells (objects_in p))) c.self.view_is

pub returns-clause-settled : goal.returns-clause-settled
returns-clause-settled c =
    let placed = c.self.inside.placed in
    let lists = lists_in placed.records in
    each_changed (settled (λ n. eqb n c.args.t.0)) placed.objects.keys placed.values.items placed.values.items lists lists c.self.inside.reserved c.self.inside.reserved c.self.inside.visits 0
    (λ i. sym (settled_all c.args.t.0 placed.values.items lists c.has_none.ensures i))
    ∙ ap (λ (p : ObjectParts). change_each (settled (λ n. eqb n c.args.t.0)) (cells (objects_in p))) c.self.view_is

pub returns-clause-handed : goal.returns-clause-handed
unfolding HasNone
returns-clause-handed c = λ test taker.
    let placed = c.self.inside.placed in
    let lists = lists_in placed.records in
    where_handed test c.args.t.0 taker placed.objects.keys placed.values.items lists lists c.self.inside.reserved c.self.inside.visits 0
    (λ y i at. none_given c.args.t.0 taker (test y) (on lists i) (c.has_none.ensures i))
    ∙ ap (λ (p : ObjectParts). change_where test (handed_cell c.args.t.0 taker) (cells (objects_in p))) c.self.view_is

pub returns-clause-standing : goal.returns-clause-standing
unfolding object_table
returns-clause-standing c = ap (λ (p : ObjectParts). standing (objects_in p).rows) c.self.view_is

pub returns-clause-nothing : goal.returns-clause-nothing
unfolding HasNone
returns-clause-nothing c = λ x cell there. false_from_ne_true (has_update c.args.t.0 cell) (λ wrote.
    let placed = c.self.inside.placed in
    let found = updated_on placed.objects.keys placed.values.items (lists_in placed.records) c.self.inside.reserved c.self.inside.visits (objects_in c.args.self.now) c.args.t.0 x cell (ap objects_in c.self.view_is) there wrote in
    true≢false (sym found.2 ∙ c.has_none.ensures found.0))
