use Rattle.std.proofs.Common.{◌≡◌, ℕ, nat_eq, take}
use Rattle.indexmap.specs.IndexMap.{get}
use Rattle.asset_meetings.specs.Users.{first_user}
use Rattle.asset_meetings.proofs.noting.note_all.Given as goal

-- the first of the first users are noted
abbrev pub invariant-users : goal.invariant-users
invariant-users l = (y : ℕ) → get nat_eq l.noted y ≡ first_user (take l.k l.users) y
