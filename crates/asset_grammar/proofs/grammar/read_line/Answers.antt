use Rattle.std.proofs.Common.{length, refl, ap, arith}
use Rattle.asset_grammar.specs.Grammar.{line_of, said_as}
use Rattle.asset_grammar.proofs.FirstLineLemmas.{is_long, is_short, length-first}
use Rattle.asset_grammar.proofs.grammar.read_line.Goals as goal

pub overflow_sub-text : goal.overflow_sub-text
overflow_sub-text c = omega (arith, length-first c.args.text.now, ap length c.read_any_line-said.ensures.tail)

pub returns-then-text-tail-gt-LONGEST_LINE-clause-says : goal.returns-then-text-tail-gt-LONGEST_LINE-clause-says
unfolding line_of said_as
returns-then-text-tail-gt-LONGEST_LINE-clause-says c = rw (is_long c.args.text.now _ c.read_any_line-said.ensures.tail (omega arith)) refl

pub returns-clause-says : goal.returns-clause-says
unfolding line_of
returns-clause-says c = rw (is_short c.args.text.now _ c.read_any_line-said.ensures.tail (omega arith)) c.read_any_line-said.ensures.says
