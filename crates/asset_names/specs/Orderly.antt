-- What the steps of a legal history say of the transactions in them.
use Rattle.std.specs.Prelude.{◌≡◌, ℕ, ◌==◌, true, false, List, [], ◌∷◌}
use Rattle.std.specs.List.{list_any}
use Rattle.asset_names.specs.declared.operations.Op.{Op}
use Rattle.asset_names.specs.declared.steps.Kind.{Kind}
use Rattle.asset_names.specs.declared.steps.Step.{Step}
use Rattle.asset_names.specs.Arrows.{lists, has_arrow}
use Rattle.asset_names.specs.Steps.{initiated, begun, completed}
use Rattle.asset_names.specs.Endings.{dependencies}
use Rattle.asset_names.specs.Operations.{Operation, operations, permits, openers}

-- no name is listed twice
abbrev pub Distinct : List ℕ → Type 0
Distinct [] = Unit {0}
Distinct (n ∷ names) = (lists names n ≡ false) × Distinct names

-- The transactions that were initiated are different; and whoever has begun, has completed, is responsible for
-- an operation, gives or takes a permit, opens an object, or is the source or the dependent of a dependency was initiated.
pub record IsOrderly (steps : List Step) : Type 0 where
  pub different : Distinct (initiated steps)
  pub begun_known : (n : ℕ) → lists (begun steps) n ≡ true → lists (initiated steps) n ≡ true
  pub owners_known : (n : ℕ) → list_any (λ (o : Operation). o.owner == n) (operations steps) ≡ true → lists (initiated steps) n ≡ true
  pub completed_known : (n : ℕ) → lists (completed steps) n ≡ true → lists (initiated steps) n ≡ true
  pub permits_known : (u t x : ℕ) (op : Op) → has_arrow (permits steps x op) u t ≡ true → (lists (initiated steps) u ≡ true) × (lists (initiated steps) t ≡ true)
  pub dependencies_known : (kind : Kind) (u v : ℕ) → has_arrow (dependencies kind steps) u v ≡ true → (lists (initiated steps) u ≡ true) × (lists (initiated steps) v ≡ true)
  pub openers_known : (n x : ℕ) (op : Op) → lists (openers steps x op) n ≡ true → lists (initiated steps) n ≡ true
