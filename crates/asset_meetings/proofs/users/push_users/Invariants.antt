use Rattle.std.proofs.Common.{◌≡◌, ◌++◌, take}
use Rattle.asset_meetings.specs.Users.{users_of}
use Rattle.asset_meetings.proofs.users.push_users.Given as goal

-- the uses of the first objects are there
abbrev pub invariant-objects : goal.invariant-objects
invariant-objects l = l.users.items ≡ l.fn.users.items ++ users_of l.t (take l.k l.obs)
