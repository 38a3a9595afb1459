use Rattle.std.proofs.Common.{◌≡◌, take, reverse}
use Rattle.asset_names.specs.Steps.{applied}
use Rattle.asset_waits.specs.Live.{live_among}
use Rattle.asset_waits.proofs.live.add_all.Given as goal

-- the live transactions that the first entries initiated are there
abbrev pub invariant-entries : goal.invariant-entries
invariant-entries l = l.names.keys ≡ live_among (applied l.core.history.entries) (applied (reverse (take l.i (reverse l.core.history.entries))))
