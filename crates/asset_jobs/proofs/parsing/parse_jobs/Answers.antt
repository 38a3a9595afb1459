use Rattle.std.proofs.Common.{arith}
use Rattle.asset_grammar.proofs.LineLemmas.{length-lines}
use Rattle.asset_jobs.proofs.parsing.parse_jobs.Goals as goal

pub take_lines-requires-clause-few : goal.take_lines-requires-clause-few
take_lines-requires-clause-few c = omega (arith, length-lines c.args.bytes.now, c.requires)

pub returns-in-Ok-clause-says : goal.returns-in-Ok-clause-says
returns-in-Ok-clause-says c = rw (c.into_pairs.ensures, c.into_jobs.ensures) c.in-Ok.ensures.says
