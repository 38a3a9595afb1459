use Rattle.std.proofs.Common.{◌≡◌, ◌++◌, string_bytes, take}
use Rattle.asset_waits.specs.Texts.{members_text}
use Rattle.asset_waits.proofs.deadlocks.push_members.Given as goal

-- the names so far are appended
abbrev pub invariant-places : goal.invariant-places
invariant-places l = string_bytes l.text ≡ string_bytes l.fn.text ++ members_text l.names (take l.place-index l.places)
