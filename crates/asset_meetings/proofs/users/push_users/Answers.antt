use Rattle.std.proofs.Common.{sym, ap, ◌∙◌, ◌++◌, [], ◌∷◌, append-nil, get_or}
use Rattle.asset_names.specs.declared.names.Ob.{Ob}
use Rattle.asset_meetings.specs.declared.users.User.{User}
use Rattle.asset_meetings.specs.Users.{users_of}
use Rattle.asset_meetings.proofs.UserLemmas.{uses_more}
use Rattle.asset_meetings.proofs.users.push_users.Goals as goal

pub objects-init : goal.objects-init
unfolding users_of
objects-init c = sym (append-nil c.args.users.now.items)

pub objects-preserved : goal.objects-preserved
objects-preserved c =
    let obs = c.args.obs.now in
    let k = c.objects.k in
    let nothing : Ob = record { 0 = 0 } in
    let used : User = record { t = c.args.t; x = get_or obs k nothing } in
    c.in_ok-push.ensures.items ∙ ap (λ l. l ++ used ∷ []) c.objects.invariant ∙ uses_more c.args.users.now.items c.args.t obs k nothing c.objects-test.true
