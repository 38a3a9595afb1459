use Rattle.asset_chains.specs.declared.side.Side.TheVariants.{Row, Column}
use Rattle.asset_chains.proofs.CrossedLemmas.{added_side}
use Rattle.asset_chains.proofs.crossed.Crossed.add.Goals as goal

pub invariant_of-self : goal.invariant_of-self
invariant_of-self g c =
    let s = c.self.inside in
    record { by_row = (added_side Row s.slots s.rows.items c.add_head.new.heads.items c.add_head.result c.self.invariant.by_row c.add_head.ensures.added c.add_head.ensures.few c.add_head.ensures.unchanged).0; by_column = c.self.invariant.by_column; few = c.self.invariant.few; in_row = c.self.invariant.in_row; in_column = c.self.invariant.in_column }

pub invariant_of-self-in-Column : goal.invariant_of-self-in-Column
invariant_of-self-in-Column g c =
    let s = c.self.inside in
    let was = c.add_head-in-Column in
    record { by_row = c.self.invariant.by_row; by_column = (added_side Column s.slots s.columns.items was.new.heads.items was.result c.self.invariant.by_column was.ensures.added was.ensures.few was.ensures.unchanged).0; few = c.self.invariant.few; in_row = c.self.invariant.in_row; in_column = c.self.invariant.in_column }

pub returns-in-Row-clause-added : goal.returns-in-Row-clause-added
returns-in-Row-clause-added g c =
    let s = c.self.inside in
    rw (c.in-Row.is, ← c.self.view_is) (added_side Row s.slots s.rows.items c.add_head.new.heads.items c.add_head.result c.self.invariant.by_row c.add_head.ensures.added c.add_head.ensures.few c.add_head.ensures.unchanged).1

pub returns-in-Column-clause-added : goal.returns-in-Column-clause-added
returns-in-Column-clause-added g c =
    let s = c.self.inside in
    let was = c.add_head-in-Column in
    rw (c.in-Column.is, ← c.self.view_is) (added_side Column s.slots s.columns.items was.new.heads.items was.result c.self.invariant.by_column was.ensures.added was.ensures.few was.ensures.unchanged).1
