use Rattle.std.proofs.Common.{sym, ap, ◌∙◌, get_or}
use Rattle.asset_meetings.specs.declared.users.User.{User}
use Rattle.asset_meetings.specs.Users.{first_user, noted_by}
use Rattle.asset_meetings.proofs.UserLemmas.{first_more}
use Rattle.asset_meetings.proofs.noting.note_all.Goals as goal

pub users-init : goal.users-init
unfolding first_user
users-init c = c.requires

pub users-preserved : goal.users-preserved
users-preserved c = λ y.
    let users = c.args.users.now in
    let nobody : User = record { t = record { 0 = 0 }; x = record { 0 = 0 } } in
    c.in_ok-note.ensures y ∙ ap (λ found. noted_by found (get_or users c.users.k nobody) y) (c.users.invariant y) ∙ sym (first_more users c.users.k nobody y c.users-test.true)
