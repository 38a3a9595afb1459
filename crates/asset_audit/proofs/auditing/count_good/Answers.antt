use Rattle.std.proofs.Common.{map, take, length, reverse, subst, sym, arith}
use Rattle.std.proofs.lemmas.List.{take-map, length-take, length-reverse}
use Rattle.asset_audit.specs.Audited.{AllRise}
use Rattle.asset_audit.specs.Apart.{AreApartBelow, SharesEarlier}
use Rattle.asset_audit.proofs.Alone.{alone_rise, alone_good, wrong_next}
use Rattle.asset_audit.proofs.Marks.{apart_lower}
use Rattle.asset_audit.proofs.auditing.count_good.Goals as goal

pub count_apart-requires-clause-rise : goal.count_apart-requires-clause-rise
count_apart-requires-clause-rise g c =
    subst AllRise (take-map g.C.Calls.listed c.count_good_alone-alone.result c.args.sessions.now)
    (alone_rise (reverse c.args.history.now.entries) (map g.C.Calls.listed c.args.sessions.now) c.count_good_alone-alone.result c.count_good_alone-alone.ensures.good)

pub returns-clause-good : goal.returns-clause-good
returns-clause-good g c =
    let log = reverse c.args.history.now.entries in
    let ss = map g.C.Calls.listed c.args.sessions.now in
    let alone = c.count_good_alone-alone.result in
    let fewer = c.count_apart.ensures.within in
    let apart = subst (λ lists. AreApartBelow lists c.count_apart.result c.len.result) (sym (take-map g.C.Calls.listed alone c.args.sessions.now)) c.count_apart.ensures.apart in
    alone_good log ss alone c.count_apart.result (omega (arith, fewer, length-take alone c.args.sessions.now)) c.count_good_alone-alone.ensures.good
    (apart_lower (take alone ss) c.count_apart.result c.len.result (length log) (omega (arith, c.len.ensures.len, length-reverse c.args.history.now.entries)) apart)

pub returns-clause-next : goal.returns-clause-next
returns-clause-next g c = λ more.
    let log = reverse c.args.history.now.entries in
    let ss = map g.C.Calls.listed c.args.sessions.now in
    let alone = c.count_good_alone-alone.result in
    let now = c.count_apart.result in
    let lists = sym (take-map g.C.Calls.listed alone c.args.sessions.now) in
    let within = c.count_good_alone-alone.ensures.within in
    let fewer = c.count_apart.ensures.within in
    let size = length-take alone c.args.sessions.now in
    wrong_next log ss alone now (omega (arith, fewer, size)) (λ lt. subst (λ ls. SharesEarlier ls now) lists (c.count_apart.ensures.next (omega (arith, lt, size, within))))
    (λ same. c.count_good_alone-alone.ensures.next (omega (arith, same, more)))
