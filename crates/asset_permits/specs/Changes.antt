-- What changes as permits come and go.
use Rattle.std.specs.Prelude.{◌≡◌, ◌≢◌, ℕ, ◌==◌, true, cond, length, Some, is_some}
use Rattle.slab.specs.Slab.{get}
use Rattle.asset_names.specs.declared.names.Txn.{Txn}
use Rattle.asset_chains.specs.Chained.{home_of}
use Rattle.asset_chains.specs.declared.side.Side.{Side}
use Rattle.asset_chains.specs.Crossed.{Crossed, lines}
use Rattle.asset_seats.specs.Seated.{Seated, seat}
use Rattle.asset_permits.specs.Descriptors.{Descriptor}

-- a transaction has this seat, which was free or its own before, and no other seat changed
pub record Sits (t : Txn) (c : ℕ) (old new : Seated) : Type 0 where
  pub seats : (d : ℕ) → seat new d ≡ cond (d == c) (Some t) (seat old d)
  pub same : is_some (seat old c) ≡ true → seat old c ≡ Some t

-- two transactions have these seats, whoever had a seat still has it, and no other seat changed
pub record BothSit (giver taker : Txn) (from to : ℕ) (old new : Seated) : Type 0 where
  pub giver_sits : seat new from ≡ Some giver
  pub taker_sits : seat new to ≡ Some taker
  pub kept : (c : ℕ) (t : Txn) → seat old c ≡ Some t → seat new c ≡ Some t
  pub others : (c : ℕ) → c ≢ from → c ≢ to → seat new c ≡ seat old c

-- permits and homes that are still there are as they were, and there are as many rows and columns as before
pub record Shrinks (old new : Crossed Descriptor) : Type 0 where
  pub permits : (k : ℕ) (d : Descriptor) → get new.items k ≡ Some d → get old.items k ≡ Some d
  pub homes : (side : Side) (k c : ℕ) → home_of (lines side new) k ≡ Some c → home_of (lines side old) k ≡ Some c
  pub many : (side : Side) → length (lines side new).chains ≡ length (lines side old).chains

-- who has a seat afterwards had the same one before
abbrev pub NoSeatComes : Seated → Seated → Type 0
NoSeatComes were left = (c : ℕ) (t : Txn) → seat left c ≡ Some t → seat were c ≡ Some t
