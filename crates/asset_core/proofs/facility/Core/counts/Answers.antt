use Rattle.std.proofs.Common.{arith}
use Rattle.asset_names.specs.declared.statuses.End.TheVariants as End'
use Rattle.asset_names.specs.Counted.{counts_of}
use Rattle.asset_names.proofs.CountLemmas.{ended_most}
use Rattle.asset_core.proofs.ValidLemmas.{valid_orderly}
use Rattle.asset_core.proofs.facility.Core.counts.Goals as goal

pub returns-clause-counts : goal.returns-clause-counts
unfolding counts_of
returns-clause-counts c =
    let orderly = valid_orderly c.self.inside.history c.self.inside.tables c.self.invariant in
    let committed = c.ended.ensures.shown _ _ c.self.invariant.stand orderly in
    let aborted = c.ended-2.ensures.shown _ _ c.self.invariant.stand orderly in
    rw (← c.self.view_is) (λ i. record { entries = c.len.ensures.len i; committed = committed i; aborted = aborted i })

pub returns-clause-committed : goal.returns-clause-committed
returns-clause-committed c =
    let orderly = valid_orderly c.self.inside.history c.self.inside.tables c.self.invariant in
    omega (arith, c.len.ensures.len, c.ended.ensures.shown _ _ c.self.invariant.stand orderly, ended_most End'.Committed c.self.inside.history.entries)

pub returns-clause-aborted : goal.returns-clause-aborted
returns-clause-aborted c =
    let orderly = valid_orderly c.self.inside.history c.self.inside.tables c.self.invariant in
    omega (arith, c.len.ensures.len, c.ended-2.ensures.shown _ _ c.self.invariant.stand orderly, ended_most End'.Aborted c.self.inside.history.entries)
