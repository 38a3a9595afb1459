use Rattle.std.proofs.Common.{◌≡◌, subst}
use Rattle.std.specs.Prelude.{List}
use Rattle.std.specs.Result.{IfOk}
use Rattle.asset_meetings.specs.declared.users.User.{User}
use Rattle.asset_meetings.specs.Users.{first_user, meetings_by, meetings_of, operators_of}
use Rattle.asset_meetings.proofs.joining.joins_of_openers.Goals as goal

pub returns : goal.returns
unfolding meetings_of
returns c = subst (λ (l : List User). IfOk c.joins_by_openers.result (λ joins. joins.items ≡ meetings_by l (operators_of (first_user l) c.args.history.now.entries))) c.requires c.joins_by_openers.ensures
