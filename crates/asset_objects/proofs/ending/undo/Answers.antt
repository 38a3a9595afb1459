use Rattle.std.proofs.Common.{refl, sym, ap, ◌∙◌, eqb, arith, List}
use Rattle.asset_records.specs.declared.records.Record.{Record}
use Rattle.asset_chains.specs.Crossed.{Crossed}
use Rattle.asset_records.specs.Listed.{lists_in}
use Rattle.asset_objects.specs.Cells.{undone}
use Rattle.asset_objects.specs.Placed.{cell_at}
use Rattle.asset_objects.proofs.EndLemmas.{back_within, back_count, back_many, back_cells, shed_many, shed_cells, shed_count, undone_all}
use Rattle.asset_objects.proofs.ending.undo.Goals as goal

pub newest-init : goal.newest-init
newest-init c = record { values = refl; lists = refl; cells = λ i. refl; visits = omega arith; tied = c.requires.tied; few = record { items = omega arith; columns = omega arith }; reserved = λ reserved. reserved }

pub put_back-requires : goal.put_back-requires
put_back-requires c =
    let went = c.in-Some.ensures.taken.0 in
    let within = back_within c.args.t.t.0 c.in-Some.undone.object c.in-Some.undone.restored (lists_in c.newest.records) (lists_in c.take_back.new.self) went in
    omega (arith, within, c.newest.invariant.lists, c.newest.invariant.values, c.requires.many)

pub newest-smaller : goal.newest-smaller
newest-smaller c =
    let i = c.in-Some.undone.object in
    omega (
      arith,
      back_count c.args.t.t.0 i c.in-Some.undone.restored (lists_in c.newest.records) (lists_in c.take_back.new.self) c.in-Some.ensures.taken.0,
      shed_count i (lists_in c.take_back.new.self) (lists_in c.shed.new.self) c.shed.ensures.sheds (λ n. eqb n c.args.t.t.0),
    )

pub newest-preserved : goal.newest-preserved
newest-preserved c =
    let t = c.args.t.t.0 in
    let i = c.in-Some.undone.object in
    let restored = c.in-Some.undone.restored in
    let went = c.in-Some.ensures.taken.0 in
    let before = lists_in c.newest.records in
    let mid = lists_in c.take_back.new.self in
    let now = lists_in c.shed.new.self in
    let values = c.put_back.new.values.items in
    record {
      values = c.put_back.ensures.many ∙ c.newest.invariant.values;
      lists = shed_many i mid now c.shed.ensures.sheds ∙ back_many t i restored before mid went ∙ c.newest.invariant.lists;
      cells = λ j. ap (undone (λ n. eqb n t)) (shed_cells i mid now c.shed.ensures.sheds values j) ∙ back_cells t i restored before mid went c.newest.values.items values c.put_back.ensures.values j ∙ c.newest.invariant.cells j;
      visits = omega (arith, c.newest.invariant.visits, c.in-Some.ensures.taken.2, c.saturating_add-visits.ensures, back_count t i restored before mid went, shed_count i mid now c.shed.ensures.sheds (λ n. eqb n t));
      tied = c.shed.ensures.tied c.args.seats.now c.take_back.ensures.tied;
      few = record {
        items = omega (arith, c.shed.ensures.few.items, c.take_back.ensures.few.items, c.newest.invariant.few.items);
        columns = omega (arith, c.shed.ensures.few.columns, c.take_back.ensures.few.columns, c.newest.invariant.few.columns);
      };
      reserved = λ reserved. c.shed.ensures.reserved (c.take_back.ensures.reserved (c.newest.invariant.reserved reserved));
    }

pub returns-clause-cells : goal.returns-clause-cells
returns-clause-cells c = λ j.
    let none = c.in_default.ensures.none in
    ap (λ (lists : List (List Record)). cell_at c.newest.values.items lists j) (ap (λ (r : Crossed Record). lists_in r) none.1)
    ∙ sym (undone_all c.args.t.t.0 c.newest.values.items (lists_in c.newest.records) none.0 j)
    ∙ c.newest.invariant.cells j
