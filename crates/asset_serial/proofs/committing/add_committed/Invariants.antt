use Rattle.std.proofs.Common.{◌≡◌, take, reverse}
use Rattle.asset_serial.specs.Answered.{answered_names}
use Rattle.asset_serial.proofs.committing.add_committed.Given as goal

-- the commits of the first entries are named
abbrev pub invariant-entries : goal.invariant-entries
invariant-entries l = l.names.keys ≡ answered_names (reverse (take l.i (reverse l.history.entries)))
