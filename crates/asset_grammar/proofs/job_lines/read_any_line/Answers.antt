use Rattle.std.proofs.Common.{rules}
use Rattle.asset_grammar.proofs.job_lines.read_any_line.Goals as goal

pub returns-in-None-clause-says : goal.returns-in-None-clause-says
returns-in-None-clause-says c = search rules
