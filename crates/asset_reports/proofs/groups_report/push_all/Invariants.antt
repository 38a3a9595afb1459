use Rattle.std.proofs.Common.{◌≡◌, ◌++◌, string_bytes}
use Rattle.std.specs.Prelude.{flat_map}
use Rattle.std.specs.List.{range_with_len}
use Rattle.asset_reports.specs.Groups.{group_line}
use Rattle.asset_reports.proofs.groups_report.push_all.Given as goal

-- the groups so far are printed
abbrev pub invariant-groups : goal.invariant-groups
invariant-groups l = string_bytes l.text ≡ string_bytes l.fn.text ++ flat_map (group_line l.groups) (range_with_len 0 l.g)
