use Rattle.std.proofs.Common.{◌≡◌, ◌++◌, nat_eq, take}
use Rattle.indexmap.specs.IndexMap.{get}
use Rattle.asset_meetings.specs.Users.{joined_with}
use Rattle.asset_meetings.proofs.joining.push_joins.Given as goal

-- the joins of the first users are there
abbrev pub invariant-users : goal.invariant-users
invariant-users l = l.joins.items ≡ l.fn.joins.items ++ joined_with (get nat_eq l.noted) (take l.k l.users)
