use Rattle.std.proofs.Common.{◌<◌, length, sym, ◌∙◌, arith}
use Rattle.asset_chains.specs.declared.side.Side.TheVariants.{Row, Column}
use Rattle.asset_chains.proofs.SlotLemmas.{there_kept, value_some}
use Rattle.asset_chains.proofs.CrossedLemmas.{home_some, lined_links, moved_side, stays_side}
use Rattle.asset_chains.proofs.crossed.Crossed.move_to.Goals as goal

pub shift-requires-clause-there : goal.shift-requires-clause-there
shift-requires-clause-there g c =
    let s = c.self.inside in
    home_some Row s.slots s.rows.items c.self.invariant.by_row c.self.invariant.in_row c.args.key (sym (value_some s.slots c.args.key) ∙ rw (← c.self.view_is) at c.requires.there)

pub shift-requires-in-Column-clause-there : goal.shift-requires-in-Column-clause-there
shift-requires-in-Column-clause-there g c =
    let s = c.self.inside in
    home_some Column s.slots s.columns.items c.self.invariant.by_column c.self.invariant.in_column c.args.key (sym (value_some s.slots c.args.key) ∙ rw (← c.self.view_is) at c.requires.there)

pub invariant_of-self : goal.invariant_of-self
invariant_of-self g c =
    let s = c.self.inside in
    let there = sym (value_some s.slots c.args.key) ∙ rw (← c.self.view_is) at c.requires.there in
    let chain : c.args.line < length s.rows.items = omega (arith, rw (← c.self.view_is, c.in-Row.is) at c.requires.line, c.self.invariant.by_row.stored.chains) in
    record {
      by_row = c.shift.ensures.lined;
      by_column = lined_links Column s.slots c.shift.new.slots s.columns.items c.self.invariant.by_column c.shift.ensures.others;
      few = λ k stands. c.self.invariant.few k (sym (there_kept s.slots c.shift.new.slots c.shift.ensures.values k) ∙ stands);
      in_row = moved_side Row c.args.key c.args.line s.slots c.shift.new.slots s.rows.items c.shift.new.heads.items c.self.invariant.by_row c.self.invariant.in_row there chain c.shift.ensures.lined c.shift.ensures.moved c.shift.ensures.values;
      in_column = stays_side Column s.slots c.shift.new.slots c.shift.ensures.others c.shift.ensures.values c.self.invariant.in_column;
    }

pub invariant_of-self-in-Column : goal.invariant_of-self-in-Column
invariant_of-self-in-Column g c =
    let s = c.self.inside in
    let was = c.shift-in-Column in
    let there = sym (value_some s.slots c.args.key) ∙ rw (← c.self.view_is) at c.requires.there in
    let chain : c.args.line < length s.columns.items = omega (arith, rw (← c.self.view_is, c.in-Column.is) at c.requires.line, c.self.invariant.by_column.stored.chains) in
    record {
      by_row = lined_links Row s.slots was.new.slots s.rows.items c.self.invariant.by_row was.ensures.others;
      by_column = was.ensures.lined;
      few = λ k stands. c.self.invariant.few k (sym (there_kept s.slots was.new.slots was.ensures.values k) ∙ stands);
      in_row = stays_side Row s.slots was.new.slots was.ensures.others was.ensures.values c.self.invariant.in_row;
      in_column = moved_side Column c.args.key c.args.line s.slots was.new.slots s.columns.items was.new.heads.items c.self.invariant.by_column c.self.invariant.in_column there chain was.ensures.lined was.ensures.moved was.ensures.values;
    }
