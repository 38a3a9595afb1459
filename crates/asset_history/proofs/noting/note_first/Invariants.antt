use Rattle.std.proofs.Common.{◌≡◌, ℕ, ◌*◌, ◌≤◌, true, length, is_some}
use Rattle.std.specs.Prelude.{nat_eq}
use Rattle.indexmap.specs.IndexMap.{get}
use Rattle.asset_names.specs.Operations.{exists}
use Rattle.asset_history.specs.Together.{AreJoined}
use Rattle.asset_history.specs.Kept.{SayUsers}
use Rattle.asset_history.proofs.noting.note_first.Given as goal

-- the users by the entries so far are noted
abbrev pub invariant-entries : goal.invariant-entries
invariant-entries l = record {
  joined : AreJoined l.entries.entries l.fn.groups l.groups;
  there : (x : ℕ) → exists l.entries.opening x ≡ true → is_some (get nat_eq l.users.found x) ≡ true;
  few : length l.users.links.links ≤ 16 * l.i;
  room : l.users.links.room ≡ l.fn.users.links.room;
  said : SayUsers l.groups l.users.links.links l.entries.entries l.i (get nat_eq l.users.found);
}
