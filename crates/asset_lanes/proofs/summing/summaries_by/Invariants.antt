use Rattle.std.proofs.Common.{◌≡◌, take, map}
use Rattle.asset_lanes.specs.Summaries.{summary_in}
use Rattle.asset_lanes.proofs.summing.summaries_by.Given as goal

-- the summaries so far are found
abbrev pub invariant-rows : goal.invariant-rows
invariant-rows l = l.found.items ≡ map (summary_in l.groups l.history.entries l.names.keys l.used) (take l.n-index l.rows)
