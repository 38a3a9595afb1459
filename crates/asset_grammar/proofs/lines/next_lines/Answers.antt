use Rattle.std.proofs.Common.{rules}
use Rattle.asset_grammar.proofs.lines.next_lines.Goals as goal

pub returns-in-Some : goal.returns-in-Some
returns-in-Some c = search rules
