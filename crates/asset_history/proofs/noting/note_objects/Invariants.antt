use Rattle.std.proofs.Common.{◌≡◌, ℕ, ◌+◌, ◌≤◌, true, length, take, is_some}
use Rattle.std.specs.Prelude.{nat_eq}
use Rattle.indexmap.specs.IndexMap.{get, spare}
use Rattle.asset_names.specs.Operations.{exists}
use Rattle.asset_history.specs.declared.users.Users.TheVariants.{Nobody}
use Rattle.asset_history.specs.Users.{users_or_nobody}
use Rattle.asset_history.proofs.noting.note_objects.Given as goal

-- the first objects are there, and there is room for the others
abbrev pub invariant-objects : goal.invariant-objects
invariant-objects l = record {
  room : length l.opening ≤ spare l.found + l.k;
  there : (x : ℕ) → exists (take l.k l.opening) x ≡ true → is_some (get nat_eq l.found x) ≡ true;
  nobody : (x : ℕ) → users_or_nobody (get nat_eq l.found x) ≡ Nobody;
}
