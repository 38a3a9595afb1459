use Rattle.std.proofs.Common.{◌≡◌, ℕ, false, Some, ◌-◌, ◌<◌, length, get_or}
use Rattle.slab.specs.Slab.{get}
use Rattle.asset_chains.specs.Chained.{home_of}
use Rattle.asset_permits.specs.Descriptors.{Descriptor, opens_on}
use Rattle.asset_permits.proofs.opening.met_opens.Given as goal

-- the first few of the seats that are met have no permit that opens the object
abbrev pub invariant-met : goal.invariant-met
invariant-met l = (i k : ℕ) (d : Descriptor) → i < l.next → home_of l.permits.rows k ≡ Some (get_or l.marks.nodes i 0) → get l.permits.items k ≡ Some d → opens_on l.covered.x.0 l.covered.op d ≡ false

abbrev pub decreases-met : goal.decreases-met
decreases-met l = length l.marks.nodes - l.next
