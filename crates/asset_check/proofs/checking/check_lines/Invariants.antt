-- The text so far, with what the lines that are left give, is the text at first with what all of them give.
use Rattle.std.proofs.Common.{◌≡◌, ◌+◌, ◌++◌, length}
use Rattle.std.specs.Prelude.{string_bytes}
use Rattle.asset_grammar.specs.Lines.{lines}
use Rattle.asset_check.specs.Checked.{check_lines, first_bad}
use Rattle.asset_check.specs.Checking.{or_first}
use Rattle.asset_check.proofs.checking.check_lines.Given as goal

abbrev pub invariant-lines : goal.invariant-lines
invariant-lines l = record {
  text : string_bytes l.text ++ check_lines l.rest l.number l.checker ≡ string_bytes l.fn.text ++ check_lines (lines l.bytes) 1 l.fn.checker;
  bad : or_first l.bad (first_bad l.rest l.number l.checker) ≡ first_bad (lines l.bytes) 1 l.fn.checker;
  count : l.number + length l.rest ≡ 1 + length (lines l.bytes);
}

abbrev pub decreases-lines : goal.decreases-lines
decreases-lines l = length l.rest
