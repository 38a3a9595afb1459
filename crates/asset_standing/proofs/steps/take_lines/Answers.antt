use Rattle.std.proofs.Common.{length, ◌∙◌, ap, arith}
use Rattle.asset_grammar.specs.Grammar.{ReadsLine}
use Rattle.asset_standing.specs.Standing.{steps_left}
use Rattle.asset_standing.proofs.steps.take_lines.Goals as goal

pub returns-then-not-branch-clause-left : goal.returns-then-not-branch-clause-left
unfolding ReadsLine
returns-then-not-branch-clause-left c =
    let read = c.in-Some.ensures in
    let stops = rw c.if-not-branch.true at c.in_ok-take_line.ensures.bad in
    rw read.1 at c.lines.invariant.left ∙ stops read.0 _ _ read.2

pub overflow_add-line_number : goal.overflow_add-line_number
unfolding ReadsLine
overflow_add-line_number c = omega (arith, c.lines.invariant.count, ap length c.in-Some.ensures.1, c.requires.few)

pub lines-smaller : goal.lines-smaller
unfolding ReadsLine
lines-smaller c = omega (arith, ap length c.in-Some.ensures.1)

pub lines-preserved : goal.lines-preserved
unfolding ReadsLine
lines-preserved c =
    let read = c.in-Some.ensures in
    let goes = rw c.if-not-branch.false at c.in_ok-take_line.ensures.good in
    record {
      left = rw read.1 at c.lines.invariant.left ∙ goes read.0 _ _ read.2;
      count = omega (arith, c.lines.invariant.count, ap length read.1);
    }

pub returns-clause-left : goal.returns-clause-left
unfolding ReadsLine steps_left
returns-clause-left c = rw c.in_default.ensures.0 at c.lines.invariant.left
