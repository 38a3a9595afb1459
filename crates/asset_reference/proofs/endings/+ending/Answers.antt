use Rattle.std.proofs.Common.{◌<◌, reverse, take, refl, sym, arith, ◌∙◌}
use Rattle.asset_names.specs.Arrows.{among, linked}
use Rattle.asset_names.specs.Steps.{applied}
use Rattle.asset_names.specs.Endings.{end_of}
use Rattle.asset_reference.specs.Ways.{ways}
use Rattle.asset_reference.proofs.WayLemmas.{links_more, link_itself, stays_without_leaving, stays_without_entering}
use Rattle.asset_reference.proofs.EndingLemmas.{end_more}
use Rattle.asset_reference.proofs.endings.+ending.Goals as goal

pub linked_within-returns-then-eq : goal.linked_within-returns-then-eq
linked_within-returns-then-eq t c = link_itself _ _ _ (sym c.eq.ensures ∙ c.if-eq.true)

pub linked_within-returns-then-count-eq0 : goal.linked_within-returns-then-count-eq0
unfolding applied ways among linked
linked_within-returns-then-count-eq0 t c = rw (c.if-count-eq0.true) (sym c.if-eq.false ∙ c.eq.ensures)

pub linked_within-returns-then-linked_within : goal.linked_within-returns-then-linked_within
linked_within-returns-then-linked_within t c =
    let some : 0 < c.args.counts.1 = omega (arith, c.if-count-eq0.false) in
    rw (links_more c.args.along c.args.entries.now c.args.counts.1 c.index-entries-last.result c.way_at-way.result _ c.args.u.0 c.args.t.0 some c.requires.second c.index-entries-last.is c.way_at-way.ensures, ← c.linked_within.ensures, c.if-linked_within.true)

pub linked_within-returns-else-linked_within : goal.linked_within-returns-else-linked_within
linked_within-returns-else-linked_within t c =
    let some : 0 < c.args.counts.1 = omega (arith, c.if-count-eq0.false) in
    rw (links_more c.args.along c.args.entries.now c.args.counts.1 c.index-entries-last.result c.way_at-way.result _ c.args.u.0 c.args.t.0 some c.requires.second c.index-entries-last.is c.way_at-way.ensures, ← c.linked_within.ensures, c.if-linked_within.false, ← c.goes_by.ensures)

pub end_within-returns-then-count-eq0 : goal.end_within-returns-then-count-eq0
unfolding applied end_of
end_within-returns-then-count-eq0 t c = rw c.if-count-eq0.true refl

pub end_within-returns-in-Some : goal.end_within-returns-in-Some
end_within-returns-in-Some t c =
    let some : 0 < c.args.count = omega (arith, c.if-count-eq0.false) in
    rw (end_more c.args.entries.now c.args.count c.index-entries-last.result c.args.t.0 some c.requires c.index-entries-last.is, ← c.end_within.ensures, c.in-Some.is) refl

pub end_within-returns-in-None : goal.end_within-returns-in-None
end_within-returns-in-None t c =
    let some : 0 < c.args.count = omega (arith, c.if-count-eq0.false) in
    rw (end_more c.args.entries.now c.args.count c.index-entries-last.result c.args.t.0 some c.requires c.index-entries-last.is, ← c.end_within.ensures, c.in-None.is, ← c.takes_effect.ensures, c.if-takes_effect.true) c.ended_by.ensures

pub end_within-returns-in-None-2 : goal.end_within-returns-in-None-2
end_within-returns-in-None-2 t c =
    let some : 0 < c.args.count = omega (arith, c.if-count-eq0.false) in
    rw (end_more c.args.entries.now c.args.count c.index-entries-last.result c.args.t.0 some c.requires c.index-entries-last.is, ← c.end_within.ensures, c.in-None-2.is, ← c.takes_effect.ensures, c.if-takes_effect.false) refl

pub linked_within-returns-then-not-leaves : goal.linked_within-returns-then-not-leaves
linked_within-returns-then-not-leaves t c =
    sym c.if-eq.false ∙ c.eq.ensures
    ∙ sym (stays_without_leaving _ (ways c.args.along (applied (reverse (take c.args.counts.1 c.args.entries.now)))) c.args.u.0 c.args.t.0 (sym c.leaves.ensures ∙ c.if-not-leaves.true))

pub linked_within-returns-then-not-enters : goal.linked_within-returns-then-not-enters
linked_within-returns-then-not-enters t c =
    sym c.if-eq.false ∙ c.eq.ensures
    ∙ sym (stays_without_entering _ (ways c.args.along (applied (reverse (take c.args.counts.1 c.args.entries.now)))) c.args.u.0 c.args.t.0 (sym c.enters.ensures ∙ c.if-not-enters.true))
