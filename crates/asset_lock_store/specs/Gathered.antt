-- What a search for those who block a request gathers.
use Rattle.std.specs.Prelude.{◌≡◌, ℕ, Bool, true, ◌&&◌, ◌⊎◌, List}
use Rattle.asset_names.specs.declared.operations.Op.{Op}
use Rattle.asset_names.specs.Arrows.{lists}
use Rattle.asset_seats.specs.Seated.{Seated}
use Rattle.asset_lock_store.specs.Stored.{Stored, key_blocks}
use Rattle.asset_lock_store.specs.Looked.{key_named}

-- whether the lock at a key is u's, and blocks t from op
unfoldable pub blocks_as : Stored → Seated → (ℕ → Bool) → ℕ → Op → ℕ → ℕ → Bool
blocks_as store seats allows t op k u = key_named store seats u k && key_blocks store seats allows t op k

-- to the names were added those to whom one of these keys belongs, and no others
pub record IsGathered (belongs : ℕ → ℕ → Bool) (looked : ℕ → Type 0) (before later : List ℕ) : Type 0 where
  pub kept : (u : ℕ) → lists before u ≡ true → lists later u ≡ true
  pub all : (k u : ℕ) → looked k → belongs k u ≡ true → lists later u ≡ true
  pub only : (u : ℕ) → lists later u ≡ true → (lists before u ≡ true) ⊎ ((k : ℕ) × looked k × (belongs k u ≡ true))
