use Rattle.asset_runner.proofs.GoesLemmas.{all_same, all_more}
use Rattle.asset_runner.proofs.order.settle.Goals as goal

pub passes-init : goal.passes-init
passes-init g c = all_same c.args.order.now.items

pub passes-preserved : goal.passes-preserved
passes-preserved g c = all_more _ _ _ c.passes.invariant c.pass.ensures

pub returns-then-not-pass : goal.returns-then-not-pass
returns-then-not-pass g c = all_more _ _ _ c.passes.invariant c.pass.ensures
