use Rattle.std.proofs.Common.{◌≡◌, ◌-◌, get_or, slice_get, Some, true, false, ap, ◌∙◌, rules, arith}
use Rattle.std.proofs.lemmas.Option.{slice_get-get_or, slice_get_within}
use Rattle.asset_audit.proofs.Marks.{marks_one, marks_all, marks_shared}
use Rattle.asset_audit.proofs.Places.{later_above}
use Rattle.asset_audit.proofs.marking.mark_calls.Goals as goal

pub returns-then-offset-marks-clause-marked : goal.returns-then-offset-marks-clause-marked
returns-then-offset-marks-clause-marked c = λ _.
    let calls = c.args.calls.now in
    let place = c.loop-place.place in
    let number = (get_or calls place c.index-calls-place.result).0 in
    let at = slice_get-get_or calls place c.index-calls-place.result (omega arith) in
    marks_all calls place c.args.first c.args.marks.now c.loop-place.marks
    (λ k d most e. omega (arith, later_above calls place (get_or calls place c.index-calls-place.result) c.requires at k d most e, c.if-offset-marks.true, c.loop-place.auto.marks, c.count_below-start.ensures.above place (get_or calls place c.index-calls-place.result) (omega arith) at)) c.loop-place.invariant

pub returns-then-marks-offset-clause-marked : goal.returns-then-marks-offset-clause-marked
returns-then-marks-offset-clause-marked c = search rules

pub returns-then-marks-offset-clause-shared : goal.returns-then-marks-offset-clause-shared
returns-then-marks-offset-clause-shared c = λ _.
    let calls = c.args.calls.now in
    let place = c.loop-place.place in
    let call = get_or calls place c.index-calls-place.result in
    let at = slice_get-get_or calls place c.index-calls-place.result (omega arith) in
    let low = c.count_below-start.ensures.above place call (omega arith) at in
    let offset = call.0 - c.args.first in
    let set : slice_get c.loop-place.marks offset ≡ Some true = slice_get-get_or c.loop-place.marks offset false (omega arith) ∙ ap Some c.if-marks-offset.true in
    marks_shared calls place c.args.first offset call c.args.marks.now c.loop-place.marks c.requires at (omega (arith, low)) (omega (arith, c.if-offset-marks.false, c.loop-place.auto.marks)) set c.loop-place.invariant

pub loop-place-preserved : goal.loop-place-preserved
loop-place-preserved c =
    let calls = c.args.calls.now in
    let place = c.loop-place.place in
    let call = get_or calls place c.index-calls-place.result in
    let at = slice_get-get_or calls place c.index-calls-place.result (omega arith) in
    let low = c.count_below-start.ensures.above place call (omega arith) at in
    let offset = call.0 - c.args.first in
    let clear : slice_get c.loop-place.marks offset ≡ Some false = slice_get-get_or c.loop-place.marks offset false (omega arith) ∙ ap Some c.if-marks-offset.false in
    marks_one calls place c.args.first offset call c.args.marks.now c.loop-place.marks at (omega (arith, low)) (omega arith) clear c.loop-place.invariant

pub returns-clause-marked : goal.returns-clause-marked
returns-clause-marked c = λ _.
    marks_all c.args.calls.now c.loop-place.place c.args.first c.args.marks.now c.loop-place.marks
    (λ k d most e. absurd (let within = slice_get_within c.args.calls.now k d e in omega arith)) c.loop-place.invariant
