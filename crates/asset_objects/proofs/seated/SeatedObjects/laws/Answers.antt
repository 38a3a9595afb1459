use Rattle.std.proofs.Common.{false, sym, ap, ◌∙◌}
use Rattle.asset_records.specs.Listed.{lists_in}
use Rattle.asset_objects.specs.Cells.{cells, ended, change_each}
use Rattle.asset_objects.specs.Placed.{ObjectParts, objects_in}
use Rattle.asset_objects.proofs.EndLemmas.{nobody_ends}
use Rattle.asset_objects.proofs.PlacedLemmas.{each_changed}
use Rattle.asset_objects.proofs.seated.SeatedObjects.laws.Goals as goal

pub returns : goal.returns
returns c = λ how.
    let placed = c.self.inside.placed in
    let lists = lists_in placed.records in
    sym (ap (λ (p : ObjectParts). change_each (ended how (λ n. false)) (cells (objects_in p))) c.self.view_is)
    ∙ sym (each_changed (ended how (λ n. false)) placed.objects.keys placed.values.items placed.values.items lists lists c.self.inside.reserved c.self.inside.reserved c.self.inside.visits c.self.inside.visits
    (λ i. sym (nobody_ends how placed.values.items lists i)))
    ∙ ap (λ (p : ObjectParts). cells (objects_in p)) c.self.view_is
