use Rattle.std.proofs.Common.{◌≡◌, ◌++◌, string_bytes, take}
use Rattle.asset_reports.specs.Groups.{members_text}
use Rattle.asset_reports.proofs.groups_report.push_members.Given as goal

-- the members so far are printed
abbrev pub invariant-members : goal.invariant-members
invariant-members l = string_bytes l.text ≡ string_bytes l.fn.text ++ members_text l.groups (take l.k-index l.members)
