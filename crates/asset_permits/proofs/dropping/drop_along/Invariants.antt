use Rattle.std.proofs.Common.{◌≡◌, ℕ, Some}
use Rattle.slab.specs.Slab.{get, slab_len}
use Rattle.asset_chains.specs.Chained.{home_of}
use Rattle.asset_chains.specs.Crossed.{lines, IsCrossed}
use Rattle.asset_permits.specs.Valid.{IsUsed}
use Rattle.asset_permits.specs.Changes.{Shrinks, NoSeatComes}
use Rattle.asset_permits.proofs.dropping.drop_along.Given as goal

-- only permits of the seat are gone
abbrev pub invariant-first : goal.invariant-first
invariant-first l = record {
  used : IsUsed l.permits l.seats;
  crossed : IsCrossed l.permits;
  shrinks : Shrinks l.initial.permits l.permits;
  left : NoSeatComes l.initial.seats l.seats;
  kept : (k : ℕ) → (home_of (lines l.side l.initial.permits) k ≡ Some l.seat → ⊥) → get l.permits.items k ≡ get l.initial.permits.items k;
}

abbrev pub decreases-first : goal.decreases-first
decreases-first l = slab_len l.permits.items
