use Rattle.std.proofs.Common.{◌≡◌, nat_eq, take, reverse}
use Rattle.indexmap.specs.IndexMap.{get}
use Rattle.asset_meetings.specs.Users.{operators_of}
use Rattle.asset_meetings.proofs.users.operators_of.Given as goal

-- the operators of the first entries are there
abbrev pub invariant-entries : goal.invariant-entries
invariant-entries l = l.users.items ≡ operators_of (get nat_eq l.noted) (reverse (take l.i (reverse l.history.entries)))
