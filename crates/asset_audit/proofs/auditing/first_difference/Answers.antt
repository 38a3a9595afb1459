use Rattle.std.proofs.Common.{◌∙◌, ◌<◌, map, length, reverse, subst, sym, ap, Some, arith}
use Rattle.std.proofs.lemmas.List.{take-map}
use Rattle.asset_audit.specs.Audited.{AllRise, AreGoodBelow, IsFirstWrong}
use Rattle.asset_audit.proofs.Places.{item_there, length_of-map}
use Rattle.asset_audit.proofs.Told.{lists_rise}
use Rattle.asset_audit.proofs.auditing.first_difference.Goals as goal

pub returns-then-session-sessions : goal.returns-then-session-sessions
returns-then-session-sessions g c = λ i l lt. c.count_good-session.ensures.good i l (omega (arith, lt, length_of-map g.C.Calls.listed c.args.sessions.now, c.if-session-sessions.true))

pub first_wrong-requires : goal.first_wrong-requires
first_wrong-requires g c =
    subst AllRise (take-map g.C.Calls.listed c.count_good-session.result c.args.sessions.now)
    (lists_rise (reverse c.args.history.now.entries) (map g.C.Calls.listed c.args.sessions.now) c.count_good-session.result c.count_good-session.ensures.good)

pub returns : goal.returns
returns g c =
    let log = reverse c.args.history.now.entries in
    let session = c.count_good-session.result in
    let within = c.count_good-session.ensures.within in
    let there = item_there g.C.Calls.listed c.args.sessions.now session c.index-sessions-session.result (omega (arith, within, c.if-session-sessions.false)) c.index-sessions-session.is in
    record {
      list = c.calls.result.now;
      in_session = there ∙ ap Some (sym c.calls.ensures);
      first = subst (λ earlier. IsFirstWrong log earlier c.calls.result.now c.in_ok-number.number) (sym (take-map g.C.Calls.listed session c.args.sessions.now)) c.in_ok-number.ensures;
      sessions = c.count_good-session.ensures.good;
    }

-- there is a call that is not good
pub returns-in_err-number : goal.returns-in_err-number
returns-in_err-number g c =
    let log = reverse c.args.history.now.entries in
    let session = c.count_good-session.result in
    let within = c.count_good-session.ensures.within in
    let more : session < length c.args.sessions.now = omega (arith, within, c.if-session-sessions.false) in
    let there = item_there g.C.Calls.listed c.args.sessions.now session c.index-sessions-session.result more c.index-sessions-session.is in
    let good = subst (λ earlier. AreGoodBelow log earlier c.calls.result.now (length c.calls.result.now)) (sym (take-map g.C.Calls.listed session c.args.sessions.now)) c.in_err-number.ensures in
    absurd (c.count_good-session.ensures.next more c.calls.result.now (there ∙ ap Some (sym c.calls.ensures)) good)
