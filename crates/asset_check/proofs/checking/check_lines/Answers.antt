use Rattle.std.proofs.Common.{length, refl, ap, arith}
use Rattle.asset_check.specs.Checking.{or_first}
use Rattle.asset_check.proofs.CheckingLemmas.{bad_end, bad_step, text_end, text_step}
use Rattle.asset_check.proofs.checking.check_lines.Goals as goal

pub lines-init : goal.lines-init
unfolding or_first
lines-init c = record { text = rw c.new-rest.ensures refl; bad = rw c.new-rest.ensures refl; count = rw c.new-rest.ensures refl }

pub lines-preserved : goal.lines-preserved
lines-preserved c =
    let cut = c.in-Some.ensures.next in
    let checked = c.in_ok-is_bad.ensures in
    record {
      text = text_step _ _ _ _ _ _ _ _ _ c.lines.invariant.text cut checked.text checked.seen;
      bad = rw c.first_of-bad.ensures (bad_step _ _ _ _ _ _ _ _ _ c.lines.invariant.bad cut checked.bad checked.seen);
      count = omega (arith, c.lines.invariant.count, ap length cut);
    }

pub lines-smaller : goal.lines-smaller
lines-smaller c = omega (arith, ap length c.in-Some.ensures.next)

pub overflow_add-number : goal.overflow_add-number
overflow_add-number c = omega (arith, c.lines.invariant.count, ap length c.in-Some.ensures.next, c.requires)

pub returns-clause-text : goal.returns-clause-text
returns-clause-text c = text_end _ _ _ _ _ c.lines.invariant.text c.in_default.ensures.next

pub returns-clause-bad : goal.returns-clause-bad
returns-clause-bad c = bad_end _ _ _ _ _ c.lines.invariant.bad c.in_default.ensures.next
