use Rattle.std.proofs.Common.{◌<◌, nat_eq, length, reverse, sym, ap, ◌∙◌, ◌++◌, take, arith}
use Rattle.std.proofs.lemmas.List.{length-reverse}
use Rattle.indexmap.specs.IndexMap.{get}
use Rattle.asset_meetings.specs.Users.{operators_of, operator_users}
use Rattle.asset_meetings.proofs.UserLemmas.{operators_more}
use Rattle.asset_meetings.proofs.users.operators_of.Goals as goal

pub entries-init : goal.entries-init
unfolding operators_of
entries-init c = c.new-users.ensures.items

pub entries-preserved : goal.entries-preserved
entries-preserved c =
    let entries = reverse c.args.history.now.entries in
    let noted = get nat_eq c.args.noted.now in
    let i = c.entries.i in
    let below : i < length entries = omega (arith, c.entries-test.true, c.len-i-end.ensures.len, length-reverse c.args.history.now.entries) in
    c.in_ok-push_operated.ensures ∙ ap (λ l. l ++ operator_users noted c.operated_at.result) c.entries.invariant
    ∙ ap (λ found. operators_of noted (reverse (take i entries)) ++ operator_users noted found) c.operated_at.ensures
    ∙ sym (operators_more noted entries i below)
