use Rattle.std.proofs.Common.{arith}
use Rattle.asset_grammar.proofs.LineLemmas.{length-lines}
use Rattle.asset_standing.specs.Standing.{left}
use Rattle.asset_standing.proofs.standing.stand.Goals as goal

pub take_objects-requires-clause-few : goal.take_objects-requires-clause-few
take_objects-requires-clause-few c = omega (arith, length-lines c.args.bytes.now, c.requires.limit)

pub stand_from-requires-clause-few : goal.stand_from-requires-clause-few
stand_from-requires-clause-few c = omega (arith, length-lines c.args.bytes.now, c.requires.limit, c.in-Ok.ensures.few)

pub returns-in-Ok-clause-stood : goal.returns-in-Ok-clause-stood
unfolding left
returns-in-Ok-clause-stood c = rw c.in-Ok.ensures.begun (rw (c.deref.ensures.value, c.into_pairs.ensures) at c.stand_from.ensures.stood)
