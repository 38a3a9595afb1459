use Rattle.std.proofs.Common.{ℕ, ◌+◌, ◌<◌, get_or}
use Rattle.asset_names.specs.Sets.{numbers}
use Rattle.asset_names.proofs.sets.is_rising.Given as goal

abbrev pub invariant-pairs : goal.invariant-pairs
invariant-pairs l = (k : ℕ) → k + 1 < l.i → get_or (numbers l.fn.objects) k 0 < get_or (numbers l.fn.objects) (k + 1) 0
