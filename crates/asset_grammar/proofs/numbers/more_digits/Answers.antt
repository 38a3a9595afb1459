use Rattle.std.proofs.Common.{refl, sym, ◌∙◌, arith}
use Rattle.asset_grammar.proofs.NumberLemmas.{digit_inside, digits_more, value_more, none_when_large}
use Rattle.asset_grammar.proofs.numbers.more_digits.Goals as goal

pub returns-in_err-number : goal.returns-in_err-number
returns-in_err-number c =
    let text = c.args.text.now in
    let digit = sym c.is_digit_at.ensures ∙ c.digits-test.true in
    let inside = digit_inside text c.digits.size digit in
    rw c.from_residual.ensures (none_when_large text c.digits.size inside
    (digits_more text c.digits.size _ inside refl c.digits.invariant.digits.digits digit)
    (omega (arith, c.in_err-number.ensures.none digit, value_more text c.digits.size _ c.digits.number inside refl c.digits.invariant.digits.value)))

pub digits-preserved : goal.digits-preserved
digits-preserved c =
    let text = c.args.text.now in
    let digit = sym c.is_digit_at.ensures ∙ c.digits-test.true in
    let inside = digit_inside text c.digits.size digit in
    record {
      digits = record {
        within = omega arith;
        digits = digits_more text c.digits.size _ inside refl c.digits.invariant.digits.digits digit;
        value = c.in_ok-number.ensures.longer.1 ∙ value_more text c.digits.size _ c.digits.number inside refl c.digits.invariant.digits.value;
      };
      small = c.in_ok-number.ensures.longer.2;
    }
