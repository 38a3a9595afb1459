use Rattle.std.proofs.Common.{List, length, sym, subst, arith}
use Rattle.asset_names.specs.Arrows.{Arrow}
use Rattle.asset_names.specs.Steps.{applied}
use Rattle.asset_cycles.specs.Cyclic.{AreBelow}
use Rattle.asset_waits.proofs.ArrowLemmas.{before_below}
use Rattle.asset_waits.proofs.arrows.wait_arrows.Goals as goal

pub returns-in-Ok-clause-below : goal.returns-in-Ok-clause-below
returns-in-Ok-clause-below c =
    let core = c.args.core.now in
    let names = c.args.names.now.keys in
    let are = rw (c.new-arrows.ensures.items) at c.in-Ok.ensures.arrows in
    subst (λ (l : List Arrow). AreBelow l (length names)) (sym are) (before_below (applied core.history.entries) core.pending names (length names) (omega arith))
