use Rattle.std.proofs.Common.{◌∙◌, ◌+◌, map, reverse, sym, ap, Some, arith}
use Rattle.std.proofs.lemmas.List.{length-reverse}
use Rattle.asset_audit.proofs.Places.{item_there, length_of-map}
use Rattle.asset_audit.proofs.Told.{good_told, good_each, told_next, all_told}
use Rattle.asset_audit.proofs.auditing.compare.Goals as goal

pub overflow_add-told : goal.overflow_add-told
overflow_add-told g c =
    let log = reverse c.args.history.now.entries in
    let ss = map g.C.Calls.listed c.args.sessions.now in
    let next = c.loop-session.session-index + 1 in
    let there = item_there g.C.Calls.listed c.args.sessions.now c.loop-session.session-index c.session-item.result (omega arith) c.session-item.is ∙ ap Some (sym c.calls.ensures) in
    omega (arith, good_told log ss next (λ i l lt. c.requires i l (omega arith)), told_next ss c.loop-session.session-index c.calls.result.now there, c.loop-session.invariant, length-reverse c.args.history.now.entries, c.len-kept.ensures.small)

pub loop-session-preserved : goal.loop-session-preserved
loop-session-preserved g c =
    let ss = map g.C.Calls.listed c.args.sessions.now in
    let there = item_there g.C.Calls.listed c.args.sessions.now c.loop-session.session-index c.session-item.result (omega arith) c.session-item.is ∙ ap Some (sym c.calls.ensures) in
    omega (arith, told_next ss c.loop-session.session-index c.calls.result.now there, c.loop-session.invariant)

pub returns-then-told-kept-clause-audit : goal.returns-then-told-kept-clause-audit
returns-then-told-kept-clause-audit g c =
    let ss = map g.C.Calls.listed c.args.sessions.now in
    let same = length_of-map g.C.Calls.listed c.args.sessions.now in (
      λ i l lt. c.requires i l (omega (arith, lt, same)),
      omega (arith, all_told ss c.loop-session.session-index (omega (arith, same)), c.loop-session.invariant, length-reverse c.args.history.now.entries, c.len-kept.ensures.len, c.if-told-kept.true),
    )

pub returns-then-told-kept-clause-each : goal.returns-then-told-kept-clause-each
returns-then-told-kept-clause-each g c = λ _.
    let log = reverse c.args.history.now.entries in
    let ss = map g.C.Calls.listed c.args.sessions.now in
    let same = length_of-map g.C.Calls.listed c.args.sessions.now in
    good_each log ss (λ i l lt. c.requires i l (omega (arith, lt, same)))
    (omega (arith, all_told ss c.loop-session.session-index (omega (arith, same)), c.loop-session.invariant, length-reverse c.args.history.now.entries, c.len-kept.ensures.len, c.if-told-kept.true))

pub returns-else-told-kept-clause-audit : goal.returns-else-told-kept-clause-audit
returns-else-told-kept-clause-audit g c =
    let ss = map g.C.Calls.listed c.args.sessions.now in
    let same = length_of-map g.C.Calls.listed c.args.sessions.now in (
      λ i l lt. c.requires i l (omega (arith, lt, same)),
      omega (arith, all_told ss c.loop-session.session-index (omega (arith, same)), c.loop-session.invariant),
      omega (arith, c.len-kept.ensures.len, length-reverse c.args.history.now.entries),
      λ equal. omega (arith, equal, c.if-told-kept.false),
    )
