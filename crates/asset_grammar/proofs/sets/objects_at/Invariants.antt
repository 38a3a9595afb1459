use Rattle.std.proofs.Common.{◌≡◌, length}
use Rattle.asset_grammar.specs.Lines.{first_line, line_tail}
use Rattle.asset_grammar.specs.Sets.{gathered_of}
use Rattle.asset_grammar.specs.Words.{parts, taken}
use Rattle.asset_grammar.proofs.sets.objects_at.Given as goal

-- what is left is gathered after what was, on the same line
abbrev pub invariant-numbers : goal.invariant-numbers
invariant-numbers l = record {
  gathers : taken (gathered_of l.fn.objects.items) (parts 32 (first_line l.text)) ≡ taken (gathered_of l.objects.items) (parts 32 (first_line l.rest));
  line : line_tail l.text ≡ line_tail l.rest;
}

abbrev pub decreases-numbers : goal.decreases-numbers
decreases-numbers l = length l.rest
