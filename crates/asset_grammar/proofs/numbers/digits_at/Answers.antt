use Rattle.asset_grammar.proofs.numbers.digits_at.Goals as goal

pub returns-then-size-lt-SURE_DIGITS : goal.returns-then-size-lt-SURE_DIGITS
returns-then-size-lt-SURE_DIGITS c = record {
  first = c.first_digits-number.ensures.digits;
  ends = c.first_digits-number.ensures.ends c.if-size-lt-SURE_DIGITS.true;
}
