-- Those who committed by a commit of their own, one after another in the order of their commits, with nobody else.
use Rattle.std.specs.Prelude.{◌≡◌, ℕ, ℤ, Bool, true, cond, not, ◌==◌, ◌||◌, List, [], ◌∷◌, ◌++◌, filter, flat_map}
use Rattle.std.specs.List.{list_all}
use Rattle.asset_names.specs.declared.steps.Step.{Step}
use Rattle.asset_names.specs.declared.steps.Step.TheVariants.{Commit}
use Rattle.asset_names.specs.Arrows.{Arrow, lists, has_arrow}
use Rattle.asset_names.specs.Steps.{Opening, Entry, applied}
use Rattle.asset_names.specs.Endings.{live, end_of}
use Rattle.asset_names.specs.Operations.{Operation, operations, opening_value, value_after}
use Rattle.asset_names.specs.Groups.{actor, joins, was_committed}

-- the transaction whose own commit the step is, if it was live before it
unfoldable pub committed_by : Step → List Step → List ℕ
committed_by (Commit t) older = cond (live older t.0) (t.0 ∷ []) []
committed_by step older = []

-- those who committed by a commit of their own, the last one first
unfoldable pub committed_names : List Step → List ℕ
committed_names [] = []
committed_names (step ∷ older) = committed_by step older ++ committed_names older

-- the entries whose step has t as its actor
unfoldable pub entries_of : List Entry → ℕ → List Entry
entries_of entries t = filter (λ (entry : Entry). (actor entry.0).0 == t) entries

-- the entries of those who committed by a commit of their own, one transaction after another in the order of their commits
unfoldable pub serial : List Entry → List Entry
serial entries = flat_map (entries_of entries) (committed_names (applied entries))

-- no entry, refused or not, joins a committed transaction with another
abbrev pub CommittedShareNothing : List Entry → Type 0
CommittedShareNothing entries = (u v : ℕ) → has_arrow (joins entries) u v ≡ true → (was_committed (end_of (applied entries) u) || was_committed (end_of (applied entries) v)) ≡ true → u ≡ v

-- whether an arrow leads from a transaction to itself, or between two that do not pass the test
unfoldable pub is_apart : (ℕ → Bool) → Arrow → Bool
is_apart test arrow = arrow.0 == arrow.1 || not (test arrow.0 || test arrow.1)

-- whether no entry, refused or not, joins a committed transaction with another
unfoldable pub shares_nothing : List Entry → Bool
shares_nothing entries = list_all (is_apart (λ n. was_committed (end_of (applied entries) n))) (joins entries)

-- the value of x by the operations of those who committed by a commit of their own, and of nobody else
unfoldable pub committed_value : Opening → List Step → ℕ → ℤ
committed_value opening steps x = value_after (λ (o : Operation). lists (committed_names steps) o.owner) x (opening_value opening x) (operations steps)
