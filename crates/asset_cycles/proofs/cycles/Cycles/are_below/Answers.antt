use Rattle.std.proofs.Common.{◌<◌, refl, subst, arith}
use Rattle.std.proofs.lemmas.List.{take_all}
use Rattle.std.proofs.lemmas.List.Elements.{All-more}
use Rattle.asset_names.specs.Arrows.{Arrow}
use Rattle.asset_cycles.specs.Cyclic.{AreBelow}
use Rattle.asset_cycles.proofs.cycles.Cycles.are_below.Goals as goal

pub arrows-preserved : goal.arrows-preserved
arrows-preserved c = All-more (λ (arrow : Arrow). (arrow.0 < c.args.count) × (arrow.1 < c.args.count)) c.args.arrows.now c.arrows.arrow-index (0, 0) c.arrows-test.true c.arrows.invariant (omega arith, omega arith)

pub returns : goal.returns
returns c = (λ h. subst (λ l. AreBelow l c.args.count) (take_all c.arrows.arrow-index c.args.arrows.now (omega (arith, c.arrows-test.false))) c.arrows.invariant, λ _. refl)
