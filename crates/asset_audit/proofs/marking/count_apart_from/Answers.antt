use Rattle.std.proofs.Common.{◌∙◌, rules, map, length, subst, sym, ap, Some, arith}
use Rattle.asset_audit.specs.Audited.{Rises}
use Rattle.asset_audit.proofs.Places.{item_there}
use Rattle.asset_audit.proofs.Marks.{ShowsSeen, seen_none, seen_more, seen_shared, apart_fewer}
use Rattle.asset_audit.proofs.marking.count_apart_from.Goals as goal

pub loop-place-init : goal.loop-place-init
loop-place-init g c =
    let lists = map g.C.Calls.listed c.args.sessions.now in
    subst (ShowsSeen lists 0 c.args.first (length c.args.marks.now)) (sym (c.fill.ensures.after (λ y same. search rules))) (seen_none lists c.args.first (length c.args.marks.now))

pub mark_calls-requires : goal.mark_calls-requires
mark_calls-requires g c = subst Rises (sym c.calls.ensures) (c.requires _ _ (item_there g.C.Calls.listed c.args.sessions.now c.loop-place.place c.index-sessions-place.result (omega arith) c.index-sessions-place.is))

pub loop-place-preserved : goal.loop-place-preserved
loop-place-preserved g c =
    let there = item_there g.C.Calls.listed c.args.sessions.now c.loop-place.place c.index-sessions-place.result (omega arith) c.index-sessions-place.is ∙ ap Some (sym c.calls.ensures) in
    seen_more (map g.C.Calls.listed c.args.sessions.now) c.loop-place.place c.args.first (length c.args.marks.now) c.calls.result.now c.loop-place.marks c.mark_calls.new.marks there c.loop-place.invariant
    c.mark_calls.ensures.length (c.mark_calls.ensures.marked c.if-not-mark_calls.false)

pub returns-clause-apart : goal.returns-clause-apart
returns-clause-apart g c = apart_fewer (map g.C.Calls.listed c.args.sessions.now) (length c.args.sessions.now) c.loop-place.place c.args.first (length c.args.marks.now) (omega arith) c.loop-place.invariant.apart

pub returns-then-not-mark_calls-clause-next : goal.returns-then-not-mark_calls-clause-next
returns-then-not-mark_calls-clause-next g c = λ _.
    let there = item_there g.C.Calls.listed c.args.sessions.now c.loop-place.place c.index-sessions-place.result (omega arith) c.index-sessions-place.is ∙ ap Some (sym c.calls.ensures) in
    seen_shared (map g.C.Calls.listed c.args.sessions.now) c.loop-place.place c.args.first (length c.args.marks.now) c.calls.result.now c.loop-place.marks there c.loop-place.invariant
    (c.mark_calls.ensures.shared c.if-not-mark_calls.true)
