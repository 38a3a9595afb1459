use Rattle.std.proofs.Common.{◌≡◌, ◌++◌, flat_map, string_bytes, take}
use Rattle.asset_waits.specs.Keepers.{keeper_line}
use Rattle.asset_waits.proofs.commits.push_keepers.Given as goal

-- the lines of those so far are appended
abbrev pub invariant-names : goal.invariant-names
invariant-names l = string_bytes l.text ≡ string_bytes l.fn.text ++ flat_map (keeper_line l.keeper l.t.0) (take l.u-index l.names)
