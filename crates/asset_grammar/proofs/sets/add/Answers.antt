use Rattle.std.proofs.Common.{rules}
use Rattle.asset_grammar.specs.Sets.{one_more_object}
use Rattle.asset_grammar.proofs.sets.add.Goals as goal

pub returns-in-Err : goal.returns-in-Err
unfolding one_more_object
returns-in-Err c = search rules
