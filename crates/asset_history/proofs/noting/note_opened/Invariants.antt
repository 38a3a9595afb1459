use Rattle.std.proofs.Common.{◌≡◌, ℕ, ◌+◌, ◌≤◌, Bool, true, List, length, take, is_some}
use Rattle.std.specs.Prelude.{nat_eq}
use Rattle.indexmap.specs.IndexMap.{get}
use Rattle.asset_names.specs.Steps.{Entry, applied}
use Rattle.asset_history.specs.Together.{name_at, AreJoined}
use Rattle.asset_history.specs.Uses.{opens, operates, has_object}
use Rattle.asset_history.specs.Users.{also, users_or_nobody, AreAmongAll, AreUsersWithin, SayAll}
use Rattle.asset_history.proofs.noting.note_opened.Given as goal

-- the first objects are opened
abbrev pub invariant-objects : goal.invariant-objects
invariant-objects l = record {
  names : l.groups.names ≡ l.fn.groups.names;
  there : (y : ℕ) → is_some (get nat_eq l.fn.users.found y) ≡ true → is_some (get nat_eq l.users.found y) ≡ true;
  within : (x : ℕ) → AreUsersWithin (length l.groups.names) l.users.links.links (users_or_nobody (get nat_eq l.users.found x));
  few : length l.users.links.links ≤ length l.fn.users.links.links + l.k;
  room : l.users.links.room ≡ l.fn.users.links.room;
  said : (all : List Entry) (openers operators : ℕ → ℕ → Bool) → ((x : ℕ) → has_object l.obs x ≡ true → opens (applied all) (name_at l.fn.groups l.node) x ≡ true)
      → AreAmongAll openers (opens (applied all)) → AreAmongAll operators (operates (applied all))
      → SayAll l.fn.groups l.fn.users.links.links all openers operators (get nat_eq l.fn.users.found)
      → AreJoined all l.fn.groups l.groups
      × SayAll l.groups l.users.links.links all (λ a x. also (has_object (take l.k l.obs) x) (name_at l.fn.groups l.node) (λ u. openers u x) a) operators (get nat_eq l.users.found);
}
