use Rattle.std.proofs.Common.{◌≡◌, take, map, reverse}
use Rattle.asset_serial.specs.Answered.{number_of}
use Rattle.asset_serial.proofs.blocks.numbers.Given as goal

-- the first entries have their numbers
abbrev pub invariant-entries : goal.invariant-entries
invariant-entries l = l.numbers.items ≡ map (number_of l.names.keys) (take l.i (reverse l.history.entries))
