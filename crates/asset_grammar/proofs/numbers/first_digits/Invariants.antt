use Rattle.std.proofs.Common.{◌-◌, ◌≤◌}
use Rattle.asset_grammar.specs.Numbers.{AreDigitsAt}
use Rattle.asset_grammar.proofs.numbers.first_digits.Given as goal

-- the bytes so far are digits, and write the number so far
abbrev pub invariant-digits : goal.invariant-digits
invariant-digits l = record {
  digits : AreDigitsAt l.text l.number l.size;
  few : l.size ≤ l.most;
}

abbrev pub decreases-digits : goal.decreases-digits
decreases-digits l = l.most - l.size
