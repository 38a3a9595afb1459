-- Groups of transactions that shared something or asked to, which of them are dead, and a history without dead groups.
use Rattle.std.specs.Prelude.{ℕ, Bool, true, false, cond, not, ◌==◌, ◌&&◌, ◌||◌, map, List, [], ◌∷◌, ◌++◌, filter, flat_map, Option, Some}
use Rattle.std.specs.List.{list_any}
use Rattle.asset_names.specs.declared.names.Txn.{Txn}
use Rattle.asset_names.specs.declared.names.Ob.{Ob}
use Rattle.asset_names.specs.declared.steps.Step.{Step}
use Rattle.asset_names.specs.declared.steps.Step.TheVariants.{Initiate, Begin, Read, Write, Add, Complete, Permit, PermitAny, Delegate, Depend, Commit, Abort, WaitFor}
use Rattle.asset_names.specs.declared.statuses.End.{End}
use Rattle.asset_names.specs.declared.statuses.End.TheVariants as End'
use Rattle.asset_names.specs.Arrows.{Arrow, linked}
use Rattle.asset_names.specs.Paths.{both_ways}
use Rattle.asset_names.specs.Steps.{Entry, takes_effect, applied}
use Rattle.asset_names.specs.Endings.{end_of}

-- the transaction that a step acts on, the first of two; a parent is not acted on
unfoldable pub actor : Step → Txn
actor (Initiate t parent) = t
actor (Begin t) = t
actor (Read t x) = t
actor (Write t x v) = t
actor (Add t x d) = t
actor (Complete t) = t
actor (Permit giver taker obs ops) = giver
actor (PermitAny giver obs ops) = giver
actor (Delegate giver taker obs) = giver
actor (Depend kind a b) = a
actor (Commit t) = t
actor (Abort t) = t
actor (WaitFor t) = t

-- the second transaction that a step acts on; of a step on one transaction, that one
unfoldable pub partner : Step → Txn
partner (Permit giver taker obs ops) = taker
partner (Delegate giver taker obs) = taker
partner (Depend kind a b) = b
partner step = actor step

-- whether a step asks for an operation on x
unfoldable pub operates_on : Step → ℕ → Bool
operates_on (Read t y) x = y.0 == x
operates_on (Write t y v) x = y.0 == x
operates_on (Add t y d) x = y.0 == x
operates_on step x = false

-- whether an open permit lists an object that another step operates on, whatever operations it permits
unfoldable pub opens_for : Step → Step → Bool
opens_for (PermitAny giver obs ops) step = list_any (λ (y : Ob). operates_on step y.0) obs
opens_for other step = false

-- the joins of a step with older ones, all of which took effect: an open permit joins its giver with each transaction that
-- operates on an object that it lists, earlier or later
unfoldable pub met : Step → List Step → List Arrow
met step older = map (λ (other : Step). ((actor step).0, (actor other).0)) (filter (λ (other : Step). opens_for step other || opens_for other step) older)

-- the joins that an entry makes over the older entries: of the two transactions that its step acts on, refused or not; and of
-- those who meet by an open permit
unfoldable pub joined_by : Entry → List Entry → List Arrow
joined_by entry older = ((actor entry.0).0, (partner entry.0).0) ∷ cond (takes_effect entry.0 entry.1) (met entry.0 (applied older)) []

-- all joins, those of the newest entry first
unfoldable pub joins : List Entry → List Arrow
joins [] = []
joins (entry ∷ older) = joined_by entry older ++ joins older

-- two transactions are of one group if joins lead from one to the other, in either direction; each is of its own
unfoldable pub same_group : List Entry → ℕ → ℕ → Bool
same_group entries a b = linked (both_ways (joins entries)) a b

-- the transactions that an entry's step acts on
unfoldable pub acted_on_by : Entry → List ℕ
acted_on_by entry = (actor entry.0).0 ∷ (partner entry.0).0 ∷ []

-- the transactions that some entry's step acts on
unfoldable pub acted_on : List Entry → List ℕ
acted_on entries = flat_map acted_on_by entries

-- whether a transaction ended by a commit
unfoldable pub was_committed : Option End → Bool
was_committed (Some End'.Committed) = true
was_committed end = false

-- the group of t is dead if no member of it has committed
unfoldable pub dead : List Entry → ℕ → Bool
dead entries t = not (list_any (λ n. same_group entries t n && was_committed (end_of (applied entries) n)) (acted_on entries))

-- a transaction stays if its group is not dead, or has none of the chosen ones
unfoldable pub stays : List Entry → List ℕ → ℕ → Bool
stays entries chosen n = not (list_any (λ c. same_group entries c n && dead entries c) chosen)

-- the entries whose step has an actor that passes the test
unfoldable pub kept : (ℕ → Bool) → List Entry → List Entry
kept keep entries = filter (λ (entry : Entry). keep (actor entry.0).0) entries

-- the entries without those of the dead groups that have a chosen transaction
unfoldable pub without : List Entry → List ℕ → List Entry
without entries chosen = kept (stays entries chosen) entries
