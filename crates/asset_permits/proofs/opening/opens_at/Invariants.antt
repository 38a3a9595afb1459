use Rattle.std.proofs.Common.{◌≡◌, ℕ, true, false, Some}
use Rattle.slab.specs.Slab.{get}
use Rattle.asset_chains.specs.Chained.{chain_of, lists}
use Rattle.asset_permits.specs.Descriptors.{Descriptor, opens_on}
use Rattle.asset_marks.proofs.KeyWalkLemmas.{passed, left, IsOn}
use Rattle.asset_permits.proofs.opening.opens_at.Given as goal

-- none of the permits at the keys that are passed opens the object
abbrev pub invariant-keys : goal.invariant-keys
invariant-keys l = record {
  on : IsOn l.permits.rows l.seat l.next;
  closed : (k : ℕ) (d : Descriptor) → lists (passed l.next (chain_of l.permits.rows l.seat)) k ≡ true → get l.permits.items k ≡ Some d → opens_on l.covered.x.0 l.covered.op d ≡ false;
}

abbrev pub decreases-keys : goal.decreases-keys
decreases-keys l = left l.next (chain_of l.permits.rows l.seat)
