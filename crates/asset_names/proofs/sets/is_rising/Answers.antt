use Rattle.std.proofs.Common.{arith}
use Rattle.asset_names.proofs.Sorting.{rises_on, not_rising, rises_whole}
use Rattle.asset_names.proofs.sets.is_rising.Goals as goal

pub pairs-init : goal.pairs-init
pairs-init c = λ k below. absurd (omega (arith, below))

pub pairs-preserved : goal.pairs-preserved
pairs-preserved c = rises_on c.args.objects.now c.pairs.i c.pairs.auto.i c.pairs.invariant (omega (arith, c.if-objects-i.false))

pub returns-then-objects-i : goal.returns-then-objects-i
returns-then-objects-i c = not_rising c.args.objects.now c.pairs.i c.pairs.auto.i c.pairs-test.true c.if-objects-i.true

pub returns : goal.returns
returns c = rises_whole c.args.objects.now c.pairs.i c.pairs-test.false c.pairs.invariant
