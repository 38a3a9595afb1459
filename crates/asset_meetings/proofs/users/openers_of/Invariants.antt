use Rattle.std.proofs.Common.{◌≡◌, take, reverse}
use Rattle.asset_meetings.specs.Users.{openers_of}
use Rattle.asset_meetings.proofs.users.openers_of.Given as goal

-- the openers of the first entries are there
abbrev pub invariant-entries : goal.invariant-entries
invariant-entries l = l.users.items ≡ openers_of (reverse (take l.i (reverse l.history.entries)))
