use Rattle.std.proofs.Common.{arith}
use Rattle.asset_audit.proofs.Search.{below_middle, above_middle}
use Rattle.asset_audit.proofs.finding.search_below.Goals as goal

pub loop-low-preserved-then-calls-middle : goal.loop-low-preserved-then-calls-middle
loop-low-preserved-then-calls-middle c = (omega arith, c.loop-low.invariant.1, below_middle _ _ _ _ c.requires (omega arith) c.if-calls-middle.true, c.loop-low.invariant.3)

pub loop-low-preserved : goal.loop-low-preserved
loop-low-preserved c = (omega arith, omega arith, c.loop-low.invariant.2, above_middle _ _ _ _ c.requires (omega arith) c.if-calls-middle.false)
