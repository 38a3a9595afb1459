use Rattle.std.proofs.Common.{◌<◌, arith}
use Rattle.asset_names.specs.Arrows.{lists}
use Rattle.asset_names.specs.Steps.{applied}
use Rattle.asset_names.specs.Operations.{openers}
use Rattle.asset_reference.proofs.AllowLemmas.{opens_last}
use Rattle.asset_reference.proofs.openers.+opening.Goals as goal

pub opens_within-returns-then-count-eq0 : goal.opens_within-returns-then-count-eq0
unfolding applied openers lists
opens_within-returns-then-count-eq0 t c = rw c.if-count-eq0.true

pub opens_within-returns-then-opens_by : goal.opens_within-returns-then-opens_by
opens_within-returns-then-opens_by t c =
    let some : 0 < c.args.count = omega (arith, c.if-count-eq0.false) in
    rw (opens_last c.args.entries.now c.args.count c.index-entries-last.result c.opened_at-opened.result c.args.n.0 c.args.x.0 c.args.op some c.requires c.index-entries-last.is c.opened_at-opened.ensures, ← c.opens_by.ensures, c.if-opens_by.true)

pub opens_within-returns-else-opens_by : goal.opens_within-returns-else-opens_by
opens_within-returns-else-opens_by t c =
    let some : 0 < c.args.count = omega (arith, c.if-count-eq0.false) in
    rw (opens_last c.args.entries.now c.args.count c.index-entries-last.result c.opened_at-opened.result c.args.n.0 c.args.x.0 c.args.op some c.requires c.index-entries-last.is c.opened_at-opened.ensures, ← c.opens_by.ensures, c.if-opens_by.false, ← c.opens_within.ensures)
