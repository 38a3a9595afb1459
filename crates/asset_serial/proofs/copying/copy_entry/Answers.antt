use Rattle.std.proofs.Common.{◌≡◌, length, reverse, sym, ◌∙◌, ap, subst, arith}
use Rattle.std.proofs.lemmas.List.{length-reverse}
use Rattle.std.proofs.lemmas.Option.{slice_get_past}
use Rattle.asset_serial.specs.Following.{alone, entry_listed_at, followed_by, CanFollow}
use Rattle.asset_serial.proofs.FollowLemmas.{entry_here, one_answered, followed_one, followed_none}
use Rattle.asset_serial.proofs.copying.copy_entry.Goals as goal

pub append_from-requires-clause-answer : goal.append_from-requires-clause-answer
unfolding entry_listed_at alone followed_by
append_from-requires-clause-answer c = λ entry at. one_answered c.args.left.now entry (subst (CanFollow c.args.left.now) (ap alone at) c.requires)

pub append_from-requires-clause-room : goal.append_from-requires-clause-room
unfolding entry_listed_at alone followed_by
append_from-requires-clause-room c =
    let all = c.args.history.now.entries in
    let here = entry_here all c.args.index (omega (arith, c.if-index-len.true, c.len.ensures.len)) in
    let long : length (entry_listed_at all c.args.index) ≡ 1 = ap (λ found. length (alone found)) here.1 in
    omega (arith, c.requires.room, long)

pub returns-then-index-len : goal.returns-then-index-len
unfolding entry_listed_at alone followed_by
returns-then-index-len c =
    let all = c.args.history.now.entries in
    let here = entry_here all c.args.index (omega (arith, c.if-index-len.true, c.len.ensures.len)) in
    c.append_from.ensures here.0 here.1 ∙ followed_one c.args.left.now here.0 ∙ ap (λ found. followed_by c.args.left.now (alone found)) (sym here.1)

pub returns-else-index-len : goal.returns-else-index-len
unfolding entry_listed_at alone followed_by
returns-else-index-len c =
    let all = c.args.history.now.entries in
    let past = slice_get_past (reverse all) c.args.index (omega (arith, c.if-index-len.false, c.len.ensures.len, length-reverse all)) in
    followed_none c.args.left.now ∙ ap (λ found. followed_by c.args.left.now (alone found)) (sym past)
