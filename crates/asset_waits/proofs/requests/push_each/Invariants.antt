use Rattle.std.proofs.Common.{◌≡◌, ◌++◌, flat_map, string_bytes, take}
use Rattle.asset_names.specs.Steps.{applied}
use Rattle.asset_waits.specs.Texts.{blocker_line}
use Rattle.asset_waits.proofs.requests.push_each.Given as goal

-- the lines of those so far are appended
abbrev pub invariant-names : goal.invariant-names
invariant-names l = string_bytes l.text ≡ string_bytes l.fn.text ++ flat_map (blocker_line (applied l.core.history.entries) l.t.0 l.x.0 l.op) (take l.u-index l.names)
