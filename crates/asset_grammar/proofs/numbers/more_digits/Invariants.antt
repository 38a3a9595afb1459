use Rattle.std.proofs.Common.{◌<◌, ◌^◌, ◌-◌, length}
use Rattle.asset_grammar.specs.Numbers.{AreDigitsAt}
use Rattle.asset_grammar.proofs.numbers.more_digits.Given as goal

-- the bytes so far are digits, and write the number so far
abbrev pub invariant-digits : goal.invariant-digits
invariant-digits l = record {
  digits : AreDigitsAt l.text l.number l.size;
  small : l.number < 2 ^ 64;
}

abbrev pub decreases-digits : goal.decreases-digits
decreases-digits l = length l.text - l.size
