use Rattle.std.proofs.Common.{sym, ◌∙◌, arith}
use Rattle.asset_grammar.proofs.NumberLemmas.{one_more_digit}
use Rattle.asset_grammar.proofs.numbers.first_digits.Goals as goal

pub overflow_mul-number : goal.overflow_mul-number
overflow_mul-number c =
    let more = one_more_digit c.args.text.now _ c.digits.size c.digits.number c.min-most.ensures c.digits-test.true c.digits.invariant.digits (sym c.is_ascii_digit.ensures.value ∙ c.if-is_ascii_digit.true) in
    omega (arith, more.0)

pub overflow_add-number : goal.overflow_add-number
overflow_add-number c =
    let more = one_more_digit c.args.text.now _ c.digits.size c.digits.number c.min-most.ensures c.digits-test.true c.digits.invariant.digits (sym c.is_ascii_digit.ensures.value ∙ c.if-is_ascii_digit.true) in
    omega (arith, more.0, c.from.ensures)

pub digits-preserved : goal.digits-preserved
digits-preserved c =
    let more = one_more_digit c.args.text.now _ c.digits.size c.digits.number c.min-most.ensures c.digits-test.true c.digits.invariant.digits (sym c.is_ascii_digit.ensures.value ∙ c.if-is_ascii_digit.true) in
    record { digits = rw c.from.ensures more.1; few = omega arith }
