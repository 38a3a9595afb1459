use Rattle.std.proofs.Common.{◌≡◌, ◌<◌, ◌-◌, false, length, take, get_or, ◌∙◌, sym, arith}
use Rattle.std.proofs.lemmas.Bool.{lt-ltb, true≢false}
use Rattle.std.proofs.lemmas.List.{get_or_read}
use Rattle.asset_names.specs.Arrows.{lists}
use Rattle.asset_marks.proofs.MarkLemmas.{has_mark, swapped, forgotten, not_forgotten}
use Rattle.asset_marks.proofs.marks.Marks.forget.Goals as goal

pub invariant_of-self : goal.invariant_of-self
invariant_of-self c =
    let order = c.self.inside.order.items in
    let position = c.self.inside.position.items in
    let met = c.self.inside.met in
    let kept = c.self.invariant in
    let below : c.args.node < length order = rw (← c.self.view_is) at c.requires in
    let at : c.index-at.result.now ≡ get_or position c.args.node 0 = get_or_read position c.args.node c.index-at.result.now (omega (arith, kept.same_size, below)) c.index-at.ensures 0 in
    let last_below : met - 1 < length order = omega (arith, kept.within, c.if-at-self.true) in
    let other = get_or_read order (met - 1) c.index-other.result.now last_below c.index-other.ensures 0 in
    swapped order position met (met - 1) c.args.node c.index-at.result.now c.index-other.result.now (met - 1) kept below at last_below other (omega (arith, last_below))

pub returns-then-at-self-clause-nodes : goal.returns-then-at-self-clause-nodes
returns-then-at-self-clause-nodes c =
    let order = c.self.inside.order.items in
    let position = c.self.inside.position.items in
    let met = c.self.inside.met in
    let kept = c.self.invariant in
    let below : c.args.node < length order = rw (← c.self.view_is) at c.requires in
    let at : c.index-at.result.now ≡ get_or position c.args.node 0 = get_or_read position c.args.node c.index-at.result.now (omega (arith, kept.same_size, below)) c.index-at.ensures 0 in
    let last_below : met - 1 < length order = omega (arith, kept.within, c.if-at-self.true) in
    let other = get_or_read order (met - 1) c.index-other.result.now last_below c.index-other.ensures 0 in
    rw (← c.self.view_is) (forgotten order position met (met - 1) c.args.node c.index-at.result.now c.index-other.result.now kept below at c.if-at-self.true (omega (arith, c.if-at-self.true)) other)

pub returns-then-at-self-clause-unchanged : goal.returns-then-at-self-clause-unchanged
returns-then-at-self-clause-unchanged c = λ absent.
    let order = c.self.inside.order.items in
    let position = c.self.inside.position.items in
    let met = c.self.inside.met in
    let kept = c.self.invariant in
    let below : c.args.node < length order = rw (← c.self.view_is) at c.requires in
    let at : c.index-at.result.now ≡ get_or position c.args.node 0 = get_or_read position c.args.node c.index-at.result.now (omega (arith, kept.same_size, below)) c.index-at.ensures 0 in
    let gone : lists (take met order) c.args.node ≡ false = rw (← c.self.view_is) at absent in
    absurd (true≢false (sym (lt-ltb (get_or position c.args.node 0) met (omega (arith, at, c.if-at-self.true))) ∙ has_mark order position met c.args.node kept below ∙ gone))

pub returns-else-at-self-clause-nodes : goal.returns-else-at-self-clause-nodes
returns-else-at-self-clause-nodes c =
    let order = c.self.inside.order.items in
    let position = c.self.inside.position.items in
    let kept = c.self.invariant in
    let below : c.args.node < length order = rw (← c.self.view_is) at c.requires in
    let at : c.index-at.result.now ≡ get_or position c.args.node 0 = get_or_read position c.args.node c.index-at.result.now (omega (arith, kept.same_size, below)) c.index-at.ensures 0 in
    rw (← c.self.view_is) (λ n. not_forgotten order position c.self.inside.met c.args.node c.index-at.result.now n kept below at c.if-at-self.false)
