use Rattle.std.proofs.Common.{◌≡◌, ◌<◌, length, ◌∙◌, ap, arith, get_or, ltb}
use Rattle.std.proofs.lemmas.List.{get_or_read}
use Rattle.asset_marks.proofs.MarkLemmas.{has_mark}
use Rattle.asset_marks.proofs.marks.Marks.has.Goals as goal

pub returns : goal.returns
returns c =
    let below : c.args.node < length c.self.inside.order.items = rw (← c.self.view_is) at c.requires in
    let position = c.self.inside.position.items in
    let read : c.index.result.now ≡ get_or position c.args.node 0 = get_or_read position c.args.node c.index.result.now (omega (arith, c.self.invariant.same_size, below)) c.index.ensures 0 in
    rw (← c.self.view_is) (ap (λ n. ltb n c.self.inside.met) read ∙ has_mark c.self.inside.order.items position c.self.inside.met c.args.node c.self.invariant below)
