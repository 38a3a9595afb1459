use Rattle.std.proofs.Common.{refl, sym, ap, ◌∙◌, eqb, true, arith, List}
use Rattle.asset_records.specs.declared.records.Record.{Record}
use Rattle.asset_chains.specs.Crossed.{Crossed}
use Rattle.asset_records.specs.Listed.{lists_in}
use Rattle.asset_objects.specs.Cells.{settled}
use Rattle.asset_objects.specs.Placed.{cell_at}
use Rattle.asset_objects.proofs.EndLemmas.{went_count, went_fewer, went_many, went_cells, shed_many, shed_cells, shed_count, settled_all}
use Rattle.asset_objects.proofs.ending.settle.Goals as goal

pub next-init : goal.next-init
next-init c = record { lists = refl; cells = λ i. refl; visits = omega arith; tied = c.requires.tied; few = record { items = omega arith; columns = omega arith }; reserved = λ reserved. reserved }

pub next-smaller : goal.next-smaller
next-smaller c =
    let t = c.args.t.t.0 in
    let i = c.in-Some.settled.object in
    omega (
      arith,
      went_fewer t i c.in-Some.settled.visited (lists_in c.next.records) (lists_in c.settle_next.new.self) c.in-Some.ensures.settled,
      shed_count i (lists_in c.settle_next.new.self) (lists_in c.shed.new.self) c.shed.ensures.sheds (λ n. eqb n t),
    )

pub next-preserved : goal.next-preserved
next-preserved c =
    let t = c.args.t.t.0 in
    let i = c.in-Some.settled.object in
    let visited = c.in-Some.settled.visited in
    let went = c.in-Some.ensures.settled in
    let before = lists_in c.next.records in
    let mid = lists_in c.settle_next.new.self in
    let now = lists_in c.shed.new.self in
    record {
      lists = shed_many i mid now c.shed.ensures.sheds ∙ went_many t i visited before mid went ∙ c.next.invariant.lists;
      cells = λ j. ap (settled (λ n. eqb n t)) (shed_cells i mid now c.shed.ensures.sheds c.args.values.now j) ∙ went_cells t i visited before mid went c.args.values.now j ∙ c.next.invariant.cells j;
      visits = omega (arith, c.next.invariant.visits, went.bound, c.saturating_add-visits.ensures, went_count t i visited before mid went, shed_count i mid now c.shed.ensures.sheds (λ n. true));
      tied = c.shed.ensures.tied c.args.seats.now c.settle_next.ensures.tied;
      few = record {
        items = omega (arith, c.shed.ensures.few.items, c.settle_next.ensures.few.items, c.next.invariant.few.items);
        columns = omega (arith, c.shed.ensures.few.columns, c.settle_next.ensures.few.columns, c.next.invariant.few.columns);
      };
      reserved = λ reserved. c.shed.ensures.reserved (c.settle_next.ensures.reserved (c.next.invariant.reserved reserved));
    }

pub returns-clause-cells : goal.returns-clause-cells
returns-clause-cells c = λ j.
    let none = c.in_default.ensures.none in
    ap (λ (lists : List (List Record)). cell_at c.args.values.now lists j) (ap (λ (r : Crossed Record). lists_in r) none.1)
    ∙ sym (settled_all c.args.t.t.0 c.args.values.now (lists_in c.next.records) none.0 j)
    ∙ c.next.invariant.cells j
