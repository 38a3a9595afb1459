use Rattle.std.proofs.Common.{◌<◌, arith}
use Rattle.asset_names.specs.Arrows.{among, linked}
use Rattle.asset_names.specs.Steps.{applied}
use Rattle.asset_names.specs.Operations.{permits}
use Rattle.asset_reference.specs.Allowing.{leads_on}
use Rattle.asset_reference.proofs.AllowLemmas.{arrows_more, links_added, leads_added}
use Rattle.asset_reference.proofs.allowing.+allowing.Goals as goal

pub allows_within-returns-then-count-eq0 : goal.allows_within-returns-then-count-eq0
unfolding applied permits among linked
allows_within-returns-then-count-eq0 t c = rw c.if-count-eq0.true c.eq.ensures

pub allows_within-returns-then-allows_within : goal.allows_within-returns-then-allows_within
allows_within-returns-then-allows_within t c =
    let some : 0 < c.args.count = omega (arith, c.if-count-eq0.false) in
    rw (arrows_more c.args.entries.now c.args.count c.index-entries-last.result c.added_at-added.result c.args.x.0 c.args.op some c.requires c.index-entries-last.is c.added_at-added.ensures, links_added, ← c.allows_within.ensures, c.if-allows_within.true)

pub allows_within-returns-else-allows_within : goal.allows_within-returns-else-allows_within
allows_within-returns-else-allows_within t c =
    let some : 0 < c.args.count = omega (arith, c.if-count-eq0.false) in
    rw (arrows_more c.args.entries.now c.args.count c.index-entries-last.result c.added_at-added.result c.args.x.0 c.args.op some c.requires c.index-entries-last.is c.added_at-added.ensures, links_added, ← c.allows_within.ensures, c.if-allows_within.false, ← c.goes_along.ensures)

pub leads_on-returns-then-count-eq0 : goal.leads_on-returns-then-count-eq0
unfolding applied permits leads_on
leads_on-returns-then-count-eq0 t c = rw c.if-count-eq0.true

pub leads_on-returns-then-leads_on : goal.leads_on-returns-then-leads_on
leads_on-returns-then-leads_on t c =
    let some : 0 < c.args.counts.0 = omega (arith, c.if-count-eq0.false) in
    rw (arrows_more c.args.entries.now c.args.counts.0 c.index-entries-last.result c.added_at-added.result c.args.x.0 c.args.op some c.requires.first c.index-entries-last.is c.added_at-added.ensures, leads_added, ← c.leads_on.ensures, c.if-leads_on.true)

pub leads_on-returns-else-leads_on : goal.leads_on-returns-else-leads_on
leads_on-returns-else-leads_on t c =
    let some : 0 < c.args.counts.0 = omega (arith, c.if-count-eq0.false) in
    rw (arrows_more c.args.entries.now c.args.counts.0 c.index-entries-last.result c.added_at-added.result c.args.x.0 c.args.op some c.requires.first c.index-entries-last.is c.added_at-added.ensures, leads_added, ← c.leads_on.ensures, c.if-leads_on.false, ← c.leads_by.ensures)
