use Rattle.std.proofs.Common.{length, refl, ap, arith}
use Rattle.asset_grammar.specs.Grammar.{ReadsLine}
use Rattle.asset_cli.proofs.TranscriptLemmas.{none_ends, ends_later, goes_on_later, step_goes_on}
use Rattle.asset_cli.proofs.rendering.render_steps.Goals as goal

pub lines-init : goal.lines-init
lines-init c = record {
  rendered = step_goes_on _ _ _ _ _ _ _ _ c.in_ok-ask.ensures.text c.in_ok-ask.ensures.history;
  count = refl;
}

pub returns-then-not-branch-clause-rendered : goal.returns-then-not-branch-clause-rendered
unfolding ReadsLine
returns-then-not-branch-clause-rendered c =
    let read = c.in-Some.ensures in
    let stops = rw c.if-not-branch.true at c.in_ok-render_line.ensures.stops in
    ends_later _ _ _ _ _ _ _ (rw read.1 at c.lines.invariant.rendered) (stops read.0 _ read.2)

pub overflow_add-line_number-in-Some : goal.overflow_add-line_number-in-Some
unfolding ReadsLine
overflow_add-line_number-in-Some c = omega (arith, c.lines.invariant.count, ap length c.in-Some.ensures.1, c.requires)

pub lines-smaller : goal.lines-smaller
unfolding ReadsLine
lines-smaller c = omega (arith, ap length c.in-Some.ensures.1)

pub lines-preserved : goal.lines-preserved
unfolding ReadsLine
lines-preserved c =
    let read = c.in-Some.ensures in
    let goes = rw c.if-not-branch.false at c.in_ok-render_line.ensures.goes_on in
    record {
      rendered = goes_on_later _ _ _ _ _ _ (rw read.1 at c.lines.invariant.rendered) (goes read.0 _ read.2);
      count = omega (arith, c.lines.invariant.count, ap length read.1);
    }

pub returns-clause-rendered : goal.returns-clause-rendered
unfolding ReadsLine
returns-clause-rendered c = ends_later _ _ _ _ _ _ _ c.lines.invariant.rendered (rw c.in_default.ensures.0 (none_ends _ _ _ _))
