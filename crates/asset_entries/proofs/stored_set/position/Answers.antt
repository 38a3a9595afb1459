use Rattle.std.proofs.Common.{arith}
use Rattle.std.proofs.lemmas.Bool.{eq-eqb, ne_eqb}
use Rattle.std.proofs.lemmas.List.{at_drop_more, drop_all}
use Rattle.asset_entries.specs.Stored.{position}
use Rattle.asset_entries.proofs.stored_set.position.Goals as goal

pub returns-then-objects-index-clause-index : goal.returns-then-objects-index-clause-index
unfolding position
returns-then-objects-index-clause-index c =
    let here = at_drop_more (position c.args.x) c.args.objects.now c.objects.index (record { 0 = 0 }) c.objects-test.true in
    omega (arith, c.objects.invariant.1, rw (eq-eqb _ _ c.if-objects-index.true) at here)

pub objects-preserved : goal.objects-preserved
unfolding position
objects-preserved c =
    let here = at_drop_more (position c.args.x) c.args.objects.now c.objects.index (record { 0 = 0 }) c.objects-test.true in
    (omega (arith, c.objects-test.true), omega (arith, c.objects.invariant.1, rw (ne_eqb _ _ c.if-objects-index.false) at here))

pub returns-clause-index : goal.returns-clause-index
unfolding position
returns-clause-index c =
    let past = rw (drop_all c.objects.index c.args.objects.now (omega (arith, c.objects-test.false))) at c.objects.invariant.1 in
    omega (arith, past)
