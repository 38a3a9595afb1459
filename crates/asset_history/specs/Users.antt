-- What is kept of the users of an object, and what it says of them.
use Rattle.std.specs.Prelude.{◌≡◌, ℕ, ◌-◌, ◌<◌, ◌≤◌, nat_eq, nat_lt, Bool, true, false, ◌||◌, ◌&&◌, ◌==◌, ◌⊎◌, cond, List, Option, Some, None, length}
use Rattle.asset_history.specs.declared.users.Users.{Users}
use Rattle.asset_history.specs.declared.users.Users.TheVariants as Users'
use Rattle.asset_history.specs.declared.links.Link.{Link}
use Rattle.asset_name_groups.specs.NamesInGroups.{NamesInGroups}
use Rattle.asset_names.specs.declared.steps.Step.{Step}
use Rattle.asset_names.specs.Steps.{Entry, applied}
use Rattle.asset_history.specs.Together.{name_at, label_at, IsWith}
use Rattle.asset_history.specs.Links.{IsIn, link_at}
use Rattle.asset_history.specs.Uses.{opens, operates}

-- those who pass the test, and t if the condition holds
unfoldable pub also : Bool → ℕ → (ℕ → Bool) → ℕ → Bool
also holds t test u = (holds && t == u) || test u

-- who uses x, on the side of openers or on the other
unfoldable pub uses_as : Bool → List Step → ℕ → ℕ → Bool
uses_as as_opener steps t x = cond as_opener (opens steps t x) (operates steps t x)

-- u is of the group of the node, or of that of a node in the chain
abbrev pub IsReached : NamesInGroups → List Link → ℕ → ℕ → ℕ → Type 0
IsReached groups links u node chain = IsWith groups u node ⊎ ((other : ℕ) × IsIn links chain other × IsWith groups u other)

-- whether another node is of the group of the node, or of that of the newest in the chain
unfoldable pub is_known : NamesInGroups → List Link → ℕ → ℕ → ℕ → Bool
is_known groups links node chain other =
    nat_eq (label_at groups node) (label_at groups other) || (nat_lt 0 chain && nat_eq (label_at groups (link_at links (chain - 1)).node) (label_at groups other))

-- The users of the object so far are openers alone, or operators alone: `mine` are they, `all_mine` are those of all entries,
-- and of the other kind, `others`, there is nobody so far. The node and those in the chain are names of `all_mine`, and each of
-- `mine` is of the group of one of these nodes.
pub record AreOfOneSide (groups : NamesInGroups) (links : List Link) (mine others all_mine : ℕ → Bool) (node chain : ℕ) : Type 0 where
  pub within : node < length groups.names
  pub user : all_mine (name_at groups node) ≡ true
  pub none : (u : ℕ) → others u ≡ false
  pub linked : chain ≤ length links
  pub users : (other : ℕ) → IsIn links chain other → (other < length groups.names) × (all_mine (name_at groups other) ≡ true)
  pub all : (u : ℕ) → mine u ≡ true → IsReached groups links u node chain

-- Somebody opens the object and somebody operates on it, in all of the history. The node is of a user, and of the group of all
-- users so far.
pub record HaveMet (groups : NamesInGroups) (openers operators all_openers all_operators : ℕ → Bool) (node : ℕ) : Type 0 where
  pub within : node < length groups.names
  pub user : (all_openers (name_at groups node) || all_operators (name_at groups node)) ≡ true
  pub opened : (a : ℕ) × (all_openers a ≡ true)
  pub operated : (t : ℕ) × (all_operators t ≡ true)
  pub one : (u : ℕ) → (openers u || operators u) ≡ true → IsWith groups u node

-- what is kept says who uses the object so far
unfoldable pub AreSaid : NamesInGroups → List Link → (ℕ → Bool) → (ℕ → Bool) → (ℕ → Bool) → (ℕ → Bool) → Users → Type 0
AreSaid groups links openers operators all_openers all_operators Users'.Nobody = (u : ℕ) → (openers u || operators u) ≡ false
AreSaid groups links openers operators all_openers all_operators (Users'.OneSide true node chain) = AreOfOneSide groups links openers operators all_openers node chain
AreSaid groups links openers operators all_openers all_operators (Users'.OneSide false node chain) = AreOfOneSide groups links operators openers all_operators node chain
AreSaid groups links openers operators all_openers all_operators (Users'.Met node) = HaveMet groups openers operators all_openers all_operators node

-- the node that is kept, and the first one if nobody uses the object
unfoldable pub node_in : Users → ℕ
node_in Users'.Nobody = 0
node_in (Users'.OneSide opens node chain) = node
node_in (Users'.Met node) = node

-- the chain that is kept, and that without links if none is
unfoldable pub chain_in : Users → ℕ
chain_in Users'.Nobody = 0
chain_in (Users'.OneSide opens node chain) = chain
chain_in (Users'.Met node) = 0

-- the node that is kept and those in the chain are among so many, and the chain is linked
pub record AreUsersWithin (nodes : ℕ) (links : List Link) (users : Users) : Type 0 where
  pub node : node_in users < nodes
  pub linked : chain_in users ≤ length links
  pub chained : (other : ℕ) → IsIn links (chain_in users) other → other < nodes

-- what is kept of an object; nobody uses one of which nothing is kept
unfoldable pub users_or_nobody : Option Users → Users
users_or_nobody (Some users) = users
users_or_nobody None = Users'.Nobody

-- what is kept says of each object who uses it: `openers` and `operators`, which are among those of all entries
abbrev pub SayAll : NamesInGroups → List Link → List Entry → (ℕ → ℕ → Bool) → (ℕ → ℕ → Bool) → (ℕ → Option Users) → Type 0
SayAll groups links all openers operators found = (x : ℕ) → AreSaid groups links (λ a. openers a x) (λ t. operators t x) (λ a. opens (applied all) a x) (λ t. operates (applied all) t x) (users_or_nobody (found x))

-- users who are among those of all entries
abbrev pub AreAmong : (ℕ → Bool) → (ℕ → Bool) → Type 0
AreAmong some all = (u : ℕ) → some u ≡ true → all u ≡ true

-- users of each object who are among those of all entries
abbrev pub AreAmongAll : (ℕ → ℕ → Bool) → (ℕ → ℕ → Bool) → Type 0
AreAmongAll some all = (u x : ℕ) → some u x ≡ true → all u x ≡ true
