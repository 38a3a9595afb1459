use Rattle.std.proofs.Common.{◌+◌, ◌∙◌, ◌≤◌, map, length, subst, sym, arith}
use Rattle.std.proofs.lemmas.List.{take-map, length-take}
use Rattle.asset_audit.specs.Audited.{AllRise}
use Rattle.asset_audit.specs.Apart.{AreApartIn, SharesEarlier}
use Rattle.asset_audit.proofs.Places.{take_there}
use Rattle.asset_audit.proofs.Marks.{apart_more, apart_lower, shares_next}
use Rattle.asset_audit.proofs.marking.count_apart_by.Goals as goal

pub count_apart_from-apart-requires : goal.count_apart_from-apart-requires
count_apart_from-apart-requires g c =
    let all = map g.C.Calls.listed c.args.sessions.now in
    subst AllRise (take-map g.C.Calls.listed c.loop-first.apart c.args.sessions.now) (λ i l e. c.requires.rise i l (take_there c.loop-first.apart all i l e))

pub loop-first-preserved : goal.loop-first-preserved
loop-first-preserved g c =
    let ss = map g.C.Calls.listed c.args.sessions.now in
    let before = c.loop-first.apart in
    let now = c.count_apart_from-apart.result in
    let lists = sym (take-map g.C.Calls.listed before c.args.sessions.now) in
    let fewer = c.count_apart_from-apart.ensures.within in
    let within = c.loop-first.invariant.within in
    let size = length-take before c.args.sessions.now in
    let most : now ≤ before = omega (arith, fewer, size) in
    let new = subst (λ ls. AreApartIn ls now c.loop-first.first (length c.loop-first.marks)) lists c.count_apart_from-apart.ensures.apart in
    record {
      width = c.count_apart_from-apart.ensures.marks ∙ c.loop-first.invariant.width;
      within = omega (arith, most, within);
      apart = apart_lower ss now (c.loop-first.first + (length c.loop-first.marks)) _ (omega arith) (apart_more ss before now c.loop-first.first (length c.loop-first.marks) most c.loop-first.invariant.apart new);
      next = λ more. shares_next ss before now most (λ lt. subst (λ ls. SharesEarlier ls now) lists (c.count_apart_from-apart.ensures.next (omega (arith, lt, size, within)))) (λ same. c.loop-first.invariant.next (omega (arith, same, more)));
    }

pub returns-clause-apart : goal.returns-clause-apart
returns-clause-apart g c = apart_lower (map g.C.Calls.listed c.args.sessions.now) c.loop-first.apart c.loop-first.first c.args.limit (omega arith) c.loop-first.invariant.apart
