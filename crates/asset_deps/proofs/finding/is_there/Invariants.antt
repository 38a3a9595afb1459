use Rattle.std.proofs.Common.{◌≡◌, ℕ, true, Some}
use Rattle.slab.specs.Slab.{get}
use Rattle.asset_chains.specs.Chained.{chain_of, lists}
use Rattle.asset_chains.specs.Crossed.{lines}
use Rattle.asset_marks.proofs.KeyWalkLemmas.{passed, left, IsOn}
use Rattle.asset_deps.proofs.finding.is_there.Given as goal

-- none of the keys that are passed has the dependency
abbrev pub invariant-keys : goal.invariant-keys
invariant-keys l = record {
  on : IsOn (lines l.side l.links) l.seat l.next;
  absent : (k : ℕ) → lists (passed l.next (chain_of (lines l.side l.links) l.seat)) k ≡ true → get l.links.items k ≡ Some l.sought → ⊥;
}

abbrev pub decreases-keys : goal.decreases-keys
decreases-keys l = left l.next (chain_of (lines l.side l.links) l.seat)
