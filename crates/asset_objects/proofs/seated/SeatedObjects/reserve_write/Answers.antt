use Rattle.std.proofs.Common.{List, true, sym, ap, ◌∙◌}
use Rattle.std.proofs.lemmas.Bool.{true≢false}
use Rattle.asset_names.proofs.Common.{always_err}
use Rattle.asset_records.specs.declared.records.Record.{Record}
use Rattle.asset_records.specs.Listed.{lists_in}
use Rattle.asset_objects.specs.Cells.{cells}
use Rattle.asset_objects.specs.Placed.{ObjectParts, object_table, objects_in}
use Rattle.asset_objects.proofs.PlacedLemmas.{rows_cells}
use Rattle.asset_objects.proofs.seated.SeatedObjects.reserve_write.Goals as goal

pub returns-in_err-reserve-clause-standing : goal.returns-in_err-reserve-clause-standing
returns-in_err-reserve-clause-standing c = λ reserved. absurd (true≢false (sym reserved ∙ sym (ap (λ (p : ObjectParts). p.reserved) c.self.view_is) ∙ c.if-not-self.true))

pub returns-in_err-reserve-clause-unchanged : goal.returns-in_err-reserve-clause-unchanged
returns-in_err-reserve-clause-unchanged c =
    let inside = c.self.inside in
    always_err c.from_residual.result
    (ap (λ (lists : List (List Record)). object_table inside.placed.objects.keys inside.placed.values.items lists inside.reserved inside.visits) c.reserve.ensures.lists ∙ ap objects_in c.self.view_is)

pub returns-in_err-reserve-clause-cells : goal.returns-in_err-reserve-clause-cells
returns-in_err-reserve-clause-cells c =
    let inside = c.self.inside in
    ap (λ (lists : List (List Record)). cells (object_table inside.placed.objects.keys inside.placed.values.items lists inside.reserved inside.visits)) c.reserve.ensures.lists
    ∙ ap (λ (p : ObjectParts). cells (objects_in p)) c.self.view_is

pub returns-in_ok-reserve-clause-cells : goal.returns-in_ok-reserve-clause-cells
returns-in_ok-reserve-clause-cells c =
    let placed = c.self.inside.placed in
    ap (λ (lists : List (List Record)). cells (object_table placed.objects.keys placed.values.items lists true c.self.inside.visits)) c.in_ok-reserve.ensures.lists
    ∙ rows_cells placed.objects.keys placed.values.items (lists_in placed.records) true c.self.inside.reserved c.self.inside.visits
    ∙ ap (λ (p : ObjectParts). cells (objects_in p)) c.self.view_is
