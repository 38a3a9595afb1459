use Rattle.std.proofs.Common.{◌<◌, length, reverse, sym, ap, ◌∙◌, ◌++◌, take, arith}
use Rattle.std.proofs.lemmas.List.{length-reverse}
use Rattle.asset_meetings.specs.Users.{openers_of, opener_users}
use Rattle.asset_meetings.proofs.UserLemmas.{openers_more}
use Rattle.asset_meetings.proofs.users.openers_of.Goals as goal

pub entries-init : goal.entries-init
unfolding openers_of
entries-init c = c.new-users.ensures.items

pub entries-preserved : goal.entries-preserved
entries-preserved c =
    let entries = reverse c.args.history.now.entries in
    let i = c.entries.i in
    let below : i < length entries = omega (arith, c.entries-test.true, c.len-i-end.ensures.len, length-reverse c.args.history.now.entries) in
    c.in_ok-push_opened.ensures ∙ ap (λ l. l ++ opener_users c.opener.result) c.entries.invariant
    ∙ ap (λ found. openers_of (reverse (take i entries)) ++ opener_users found) c.opener.ensures
    ∙ sym (openers_more entries i below)
