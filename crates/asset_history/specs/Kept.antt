-- What a history keeps beside its entries.
use Rattle.std.specs.Prelude.{◌≡◌, ℕ, ◌<◌, ◌≤◌, Bool, true, false, nat_eq, not, ◌&&◌, List, [], ◌∷◌, ◌*◌, length, reverse, take, slice_get, Option, Some, None, is_some}
use Rattle.indexmap.specs.IndexMap.{get, spare}
use Rattle.asset_names.specs.Arrows.{Arrow, has_arrow}
use Rattle.asset_names.specs.Steps.{Opening, Entry, applied}
use Rattle.asset_names.specs.Groups.{actor, partner, joins, same_group}
use Rattle.asset_names.specs.Operations.{exists}
use Rattle.asset_entries.specs.Committing.{commit_at, has_commit}
use Rattle.asset_entries.specs.Knowing.{is_of_known_at}
use Rattle.asset_entries.specs.Recorded.{Recorded}
use Rattle.asset_name_groups.specs.NamesInGroups.{NamesInGroups, flag_at}
use Rattle.asset_history.specs.declared.users.Users.{Users}
use Rattle.asset_history.specs.declared.links.Link.{Link}
use Rattle.asset_history.specs.declared.labelling.KeptGroups.{KeptGroups}
use Rattle.asset_history.specs.Named.{names_of}
use Rattle.asset_history.specs.Uses.{opens, operates}
use Rattle.asset_history.specs.Together.{name_at, label_at, AreOfEntries, AreFlagged}
use Rattle.asset_history.specs.Users.{SayAll}

-- The names are those of the entries, in order of first use. Two have one label exactly if they are of one group, and a group is
-- flagged exactly if a commit of a member was answered with `Committed`.
pub record AreLabels (entries : List Entry) (groups : NamesInGroups) : Type 0 where
  pub names : groups.names ≡ names_of entries
  pub same : (i j : ℕ) → i < length groups.names → j < length groups.names → nat_eq (label_at groups i) (label_at groups j) ≡ same_group entries (name_at groups i) (name_at groups j)
  pub flags : (k : ℕ) → k < length groups.names → flag_at groups.flags k ≡ has_commit (same_group entries (name_at groups k)) entries

-- the first i entries
abbrev pub before : List Entry → ℕ → List Entry
before all i = reverse (take i (reverse all))

-- what is kept of each object says who uses it by the first i entries
abbrev pub SayUsers : NamesInGroups → List Link → List Entry → ℕ → (ℕ → Option Users) → Type 0
SayUsers groups links all i found = SayAll groups links all (opens (applied (before all i))) (operates (applied (before all i))) found

-- labels keep two names in one group if an arrow leads from one to the other
abbrev pub Respect : NamesInGroups → List Arrow → Type 0
Respect groups arrows = (u v : ℕ) → has_arrow arrows u v ≡ true → (i j : ℕ) → i < length groups.names → j < length groups.names → name_at groups i ≡ u → name_at groups j ≡ v → label_at groups i ≡ label_at groups j

-- The names of all entries are there. Their groups join what the joins of the older entries join, and the two of the newest one,
-- and nobody who is not of one group by all entries; they are flagged by the older entries.
pub record AreNamed (all older : List Entry) (pair : Arrow) (groups : NamesInGroups) : Type 0 where
  pub names : groups.names ≡ names_of all
  pub of_entries : AreOfEntries all groups
  pub joined_before : Respect groups (joins older)
  pub joined_now : Respect groups (pair ∷ [])
  pub flagged : AreFlagged older groups

-- the two transactions that the entry's step acts on, and 0 twice if there is no entry
unfoldable pub pair_of : Option Entry → Arrow
pair_of (Some entry) = ((actor entry.0).0, (partner entry.0).0)
pair_of None = (0, 0)

abbrev pub pair_at : List Entry → ℕ → Arrow
pair_at all i = pair_of (slice_get (reverse all) i)

-- whether the entry, if there is one, is of one transaction that was known, and commits nobody
abbrev pub leaves_groups_at : Option Entry → Bool
leaves_groups_at entry = is_of_known_at entry && not (is_some (commit_at entry))

-- Once `is_opened` holds, what is kept says who uses objects by the entries so far, which are among all. Until then no object
-- is opened, there is room for the users of each object, and nobody and no link is kept. That it does not hold before the first
-- open permit is not said: it costs time alone. An entry takes 16 links at most.
pub record AreKept (opening : Opening) (all entries : List Entry) (kept : KeptGroups) : Type 0 where
  pub closed : kept.is_opened ≡ false → (a x : ℕ) → opens (applied entries) a x ≡ false
  pub room : kept.is_opened ≡ false → length opening ≤ spare kept.users.found
  pub empty : kept.is_opened ≡ false → (x : ℕ) → get nat_eq kept.users.found x ≡ None
  pub unlinked : kept.is_opened ≡ false → kept.users.links.links ≡ []
  pub few : length kept.users.links.links ≤ 16 * length entries
  pub there : kept.is_opened ≡ true → (x : ℕ) → exists opening x ≡ true → is_some (get nat_eq kept.users.found x) ≡ true
  pub say : kept.is_opened ≡ true → SayAll kept.groups kept.users.links.links all (opens (applied entries)) (operates (applied entries)) (get nat_eq kept.users.found)

-- what a history keeps beside its entries: the labels of their groups, the users of objects, and room for two names and 16 links for
-- each entry
pub record IsHistory (recorded : Recorded) (kept : KeptGroups) : Type 0 where
  pub labels : AreLabels recorded.entries kept.groups
  pub users : AreKept recorded.opening recorded.entries recorded.entries kept
  pub room : 2 * recorded.capacity ≤ kept.groups.room
  pub link_room : 16 * recorded.capacity ≤ kept.users.links.room
