use Rattle.std.proofs.Common.{length, refl, ◌∙◌, ap, arith}
use Rattle.asset_names.specs.Sets.{twice, HasNoDouble}
use Rattle.asset_grammar.specs.Grammar.{ReadsLine}
use Rattle.asset_scripts.specs.Preamble.{TakesLine, begun_at, beginning}
use Rattle.asset_scripts.proofs.preamble.take_objects.Goals as goal

pub lines-init : goal.lines-init
unfolding HasNoDouble twice
lines-init c = record {
  begun = rw (c.requires.empty, c.new-rest.ensures) refl;
  count = rw c.new-rest.ensures refl;
  different = rw c.requires.empty (λ m. refl);
}

pub returns-in-First-clause-begun : goal.returns-in-First-clause-begun
unfolding TakesLine begun_at ReadsLine
returns-in-First-clause-begun c =
    let read = c.in-Some.ensures in
    let takes = rw c.in-First.is at (c.in_ok-take_line.ensures.takes read.0 _ read.2) in
    rw read.1 at c.lines.invariant.begun ∙ takes _ _

pub returns-in-First-clause-few : goal.returns-in-First-clause-few
unfolding ReadsLine
returns-in-First-clause-few c = omega (arith, c.lines.invariant.count, ap length c.in-Some.ensures.1)

pub returns-in-Bad-clause-begun : goal.returns-in-Bad-clause-begun
unfolding TakesLine begun_at ReadsLine
returns-in-Bad-clause-begun c =
    let read = c.in-Some.ensures in
    let takes = rw c.in-Bad.is at (c.in_ok-take_line.ensures.takes read.0 _ read.2) in
    rw read.1 at c.lines.invariant.begun ∙ takes _ _

pub returns-in-Bad-clause-few : goal.returns-in-Bad-clause-few
unfolding ReadsLine
returns-in-Bad-clause-few c = omega (arith, c.lines.invariant.count, ap length c.in-Some.ensures.1)

pub lines-preserved : goal.lines-preserved
unfolding TakesLine ReadsLine
lines-preserved c =
    let read = c.in-Some.ensures in
    let takes = rw c.in-More.is at (c.in_ok-take_line.ensures.takes read.0 _ read.2) in
    record {
      begun = rw read.1 at c.lines.invariant.begun ∙ takes _ _;
      count = omega (arith, c.lines.invariant.count, ap length read.1);
      different = c.in_ok-take_line.ensures.different c.lines.invariant.different;
    }

pub returns-clause-begun : goal.returns-clause-begun
unfolding begun_at beginning ReadsLine
returns-clause-begun c = rw c.in_default.ensures.0 at c.lines.invariant.begun

pub overflow_add-number : goal.overflow_add-number
unfolding ReadsLine
overflow_add-number c = omega (arith, c.lines.invariant.count, ap length c.in-Some.ensures.1, c.requires.few)

pub lines-smaller : goal.lines-smaller
unfolding ReadsLine
lines-smaller c = omega (arith, ap length c.in-Some.ensures.1)

pub returns-clause-few : goal.returns-clause-few
unfolding ReadsLine
returns-clause-few c = omega (arith, c.lines.invariant.count, ap length c.in_default.ensures.0, ap length c.in_default.ensures.1)
