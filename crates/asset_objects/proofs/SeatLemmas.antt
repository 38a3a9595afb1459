-- Updates stay tied to the seats while nobody moves.
use Rattle.std.proofs.Common.{◌≡◌, ℕ, zero, suc, Option, Some, None, is_some, refl, sym, ap, ◌∙◌}
use Rattle.asset_chains.specs.Chained.{home_of}
use Rattle.asset_seats.specs.Seated.{Seated, seat}
use Rattle.asset_records.specs.Listed.{owner_at, somebody}
use Rattle.asset_objects.specs.Placed.{ObjectParts, IsTied}

pub tied_same : (parts : ObjectParts) (seats new : Seated) → IsTied parts seats → ((c : ℕ) → seat new c ≡ seat seats c) → IsTied parts new
unfolding owner_at
tied_same parts seats new tied same = record {
  owned = λ k. tied.owned k ∙ owner (home_of parts.records.columns k);
  within = λ c some. tied.within c (sym (ap is_some (same c)) ∙ some);
} where
  owner : (o : Option ℕ) → owner_at seats o ≡ owner_at new o
  owner None = refl
  owner (Some zero) = refl
  owner (Some (suc c)) = ap somebody (sym (same c))
