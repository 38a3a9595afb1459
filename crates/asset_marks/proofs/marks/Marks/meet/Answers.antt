use Rattle.std.proofs.Common.{◌≡◌, ◌+◌, ◌<◌, true, false, length, take, get_or, refl, sym, ◌∙◌, arith}
use Rattle.std.proofs.lemmas.Bool.{lt-ltb, le-ltb}
use Rattle.std.proofs.lemmas.List.{get_or_read}
use Rattle.asset_names.specs.Arrows.{lists}
use Rattle.asset_marks.proofs.MarkLemmas.{has_mark, swapped, swapped_met}
use Rattle.asset_marks.proofs.marks.Marks.meet.Goals as goal

pub invariant_of-self : goal.invariant_of-self
invariant_of-self c =
    let order = c.self.inside.order.items in
    let position = c.self.inside.position.items in
    let met = c.self.inside.met in
    let kept = c.self.invariant in
    let below : c.args.node < length order = rw (← c.self.view_is) at c.requires in
    let at : c.index-at.result.now ≡ get_or position c.args.node 0 = get_or_read position c.args.node c.index-at.result.now (omega (arith, kept.same_size, below)) c.index-at.ensures 0 in
    let other : c.index-other.result.now ≡ get_or order met 0 = get_or_read order met c.index-other.result.now (omega (arith, at, (kept.positions c.args.node below).0, c.if-at-self.true)) c.index-other.ensures 0 in
    let met_below : met < length order = omega (arith, at, (kept.positions c.args.node below).0, c.if-at-self.true) in
    swapped order position met met c.args.node c.index-at.result.now c.index-other.result.now (met + 1) kept below at met_below other (omega (arith, met_below))

pub returns-then-at-self-clause-nodes : goal.returns-then-at-self-clause-nodes
returns-then-at-self-clause-nodes c =
    let order = c.self.inside.order.items in
    let position = c.self.inside.position.items in
    let met = c.self.inside.met in
    let kept = c.self.invariant in
    let below : c.args.node < length order = rw (← c.self.view_is) at c.requires in
    let at : c.index-at.result.now ≡ get_or position c.args.node 0 = get_or_read position c.args.node c.index-at.result.now (omega (arith, kept.same_size, below)) c.index-at.ensures 0 in
    let new : lists (take met order) c.args.node ≡ false = sym (has_mark order position met c.args.node kept below) ∙ le-ltb (get_or position c.args.node 0) met (omega (arith, at, c.if-at-self.true)) in
    rw (← c.self.view_is, new) (swapped_met order met c.args.node c.index-at.result.now c.index-other.result.now c.if-at-self.true (omega (arith, at, (kept.positions c.args.node below).0)))

pub returns-else-at-self-clause-nodes : goal.returns-else-at-self-clause-nodes
returns-else-at-self-clause-nodes c =
    let order = c.self.inside.order.items in
    let position = c.self.inside.position.items in
    let met = c.self.inside.met in
    let kept = c.self.invariant in
    let below : c.args.node < length order = rw (← c.self.view_is) at c.requires in
    let at : c.index-at.result.now ≡ get_or position c.args.node 0 = get_or_read position c.args.node c.index-at.result.now (omega (arith, kept.same_size, below)) c.index-at.ensures 0 in
    let old : lists (take met order) c.args.node ≡ true = sym (has_mark order position met c.args.node kept below) ∙ lt-ltb (get_or position c.args.node 0) met (omega (arith, at, c.if-at-self.false)) in
    rw (← c.self.view_is, old) refl
