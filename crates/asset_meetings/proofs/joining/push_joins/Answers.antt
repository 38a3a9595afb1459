use Rattle.std.proofs.Common.{nat_eq, sym, ap, ◌++◌, ◌∙◌, append-nil, get_or}
use Rattle.indexmap.specs.IndexMap.{get}
use Rattle.asset_meetings.specs.declared.users.User.{User}
use Rattle.asset_meetings.specs.Users.{joined_with, joins_of}
use Rattle.asset_meetings.proofs.UserLemmas.{joined_more}
use Rattle.asset_meetings.proofs.joining.push_joins.Goals as goal

pub users-init : goal.users-init
unfolding joined_with
users-init c = sym (append-nil c.args.joins.now.items)

pub users-preserved : goal.users-preserved
users-preserved c =
    let users = c.args.users.now in
    let noted = get nat_eq c.args.noted.now in
    let nobody : User = record { t = record { 0 = 0 }; x = record { 0 = 0 } } in
    let used = get_or users c.users.k nobody in
    c.in_ok-push_join.ensures ∙ ap (λ l. l ++ joins_of used.t (noted used.x.0)) c.users.invariant ∙ joined_more noted c.args.joins.now.items users c.users.k nobody c.users-test.true
