use Rattle.std.proofs.Common.{ap, ◌∙◌}
use Rattle.asset_grammar.specs.Grammar.{is_blank, line_of, said_as, ReadsLine}
use Rattle.asset_check.proofs.CheckerLemmas.{said_none, said_some}
use Rattle.asset_check.proofs.lines.said_of.Goals as goal

pub returns-in-Some : goal.returns-in-Some
unfolding ReadsLine
returns-in-Some c =
    let read = c.in-Some.ensures in
    ap line_of (said_some c.args.line.now read.0 _ _ c.requires c.new-lines.ensures read.1) ∙ read.2

pub returns-in-None : goal.returns-in-None
unfolding ReadsLine said_as line_of is_blank
returns-in-None c = ap line_of (said_none c.args.line.now _ c.requires c.new-lines.ensures c.in-None.ensures.0)
