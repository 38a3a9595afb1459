-- Paths, cycles, closed sets and chains of permits in the words of a textbook.
use Rattle.std.specs.Prelude.{◌≡◌, ℕ, Bool, true, ◌&&◌, not, List, ◌∷◌, ◌⊎◌}
use Rattle.asset_names.specs.declared.operations.Op.{Op}
use Rattle.asset_names.specs.declared.steps.Kind.TheVariants.{Ad}
use Rattle.asset_names.specs.declared.steps.Step.{Step}
use Rattle.asset_names.specs.Arrows.{Arrow, lists, has_arrow, linked}
use Rattle.asset_names.specs.Endings.{dependencies, live, same_class}
use Rattle.asset_names.specs.Operations.{permits, openers}

-- A path from a transaction to another: both are of one class; or an arrow of order leads from a member of its class to a
-- transaction from which a path leads on.
pub data Path (classes orders : List Arrow) : ℕ → ℕ → Type 0 where
  within : (a b : ℕ) → linked classes a b ≡ true → Path classes orders a b
  onward : (a c d b : ℕ) → linked classes a c ≡ true → has_arrow orders c d ≡ true → Path classes orders d b → Path classes orders a b

-- no cycle stands: from where an arrow of order ends, no path leads to where it begins
abbrev pub IsAcyclic : List Arrow → List Arrow → Type 0
IsAcyclic classes orders = (c d : ℕ) → has_arrow orders c d ≡ true → ¬ Path classes orders d c

-- whether the step ends n, which was live
abbrev pub ends : Step → List Step → ℕ → Bool
ends step steps n = live steps n && not (live (step ∷ steps) n)

-- a set has, with each of its members, the member's class, and those live transactions that have an abort dependency on it
pub record IsClosed (steps : List Step) (taken : ℕ → Bool) : Type 0 where
  pub classes : (a b : ℕ) → taken a ≡ true → same_class steps a b ≡ true → taken b ≡ true
  pub dependents : (a b : ℕ) → taken a ≡ true → live steps b ≡ true → has_arrow (dependencies Ad steps) a b ≡ true → taken b ≡ true

-- a permits b to do op on x: by a permit to b, or by one to anybody
abbrev pub Permits : List Step → ℕ → Op → ℕ → ℕ → Type 0
Permits steps x op a b = (has_arrow (permits steps x op) a b ≡ true) ⊎ (lists (openers steps x op) a ≡ true)

-- a chain of live transactions leads from one to another, each of which permits the next to do op on x; or they are one
pub data Allowing (steps : List Step) (x : ℕ) (op : Op) : ℕ → ℕ → Type 0 where
  itself : (a : ℕ) → Allowing steps x op a a
  onward : (a b c : ℕ) → live steps a ≡ true → live steps b ≡ true → Permits steps x op a b → Allowing steps x op b c → Allowing steps x op a c
