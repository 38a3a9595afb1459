use Rattle.std.proofs.Common.{refl, ap, ◌∙◌, length, arith}
use Rattle.asset_grammar.specs.JobLines.{ReadsJobLine}
use Rattle.asset_jobs.specs.Jobs.{jobs_of, said_from, line_then}
use Rattle.asset_jobs.specs.Reads.{FailsToSay}
use Rattle.asset_jobs.proofs.parsing.take_lines.Goals as goal

pub lines-init : goal.lines-init
unfolding jobs_of
lines-init c = record { says = rw (c.new-left.ensures, c.requires.empty) refl; count = omega (arith, ap length c.new-left.ensures) }

pub overflow_add-number : goal.overflow_add-number
unfolding ReadsJobLine
overflow_add-number c = omega (arith, c.lines.invariant.count, ap length c.in-Some.ensures.1, c.requires.few)

pub returns-in-Ok-false-clause-fails : goal.returns-in-Ok-false-clause-fails
unfolding said_from line_then FailsToSay ReadsJobLine
returns-in-Ok-false-clause-fails c =
    let taken = rw (c.in-Ok-false.is, c.in-Ok-false.field-0-test) at c.take_line.ensures in
    c.lines.invariant.says ∙ rw (c.in-Some.ensures.1, c.in-Some.ensures.2, taken) refl

pub returns-in-Err-clause-fails : goal.returns-in-Err-clause-fails
unfolding FailsToSay
returns-in-Err-clause-fails c = tt

pub lines-smaller : goal.lines-smaller
unfolding ReadsJobLine
lines-smaller c = omega (arith, ap length c.in-Some.ensures.1)

pub lines-preserved : goal.lines-preserved
unfolding said_from line_then ReadsJobLine
lines-preserved c =
    let taken = rw (c.in-Ok-true.is, c.in-Ok-true.field-0-test) at c.take_line.ensures in
    record {
      says = c.lines.invariant.says ∙ rw (c.in-Some.ensures.1, c.in-Some.ensures.2, taken) refl;
      count = omega (arith, c.lines.invariant.count, ap length c.in-Some.ensures.1);
    }

pub returns-clause-says : goal.returns-clause-says
unfolding said_from ReadsJobLine
returns-clause-says c = c.lines.invariant.says ∙ rw c.in_default.ensures.0 refl
