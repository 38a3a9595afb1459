-- Dependencies between transactions, as callers see them: those that stand, the classes that group commits make of them,
-- and whom an end takes with it.
use Rattle.std.specs.Prelude.{ℕ, Bool, ◌==◌, ◌&&◌, ◌||◌, not, List, ◌++◌, map, filter}
use Rattle.std.specs.List.{list_any}
use Rattle.asset_names.specs.declared.steps.Kind.{Kind}
use Rattle.asset_names.specs.declared.steps.Kind.TheVariants.{Cd, Ad, Gc}
use Rattle.asset_names.specs.Arrows.{Arrow, linked}
use Rattle.asset_names.specs.Paths.{same_kind, both_ways, closes_cycle, has_outside}

-- a dependency: the dependent transaction depends on the source
pub record Dependency : Type 0 where
  pub kind : Kind
  pub source : ℕ
  pub dependent : ℕ

-- the transactions that are enrolled, the dependencies between them, and those of them that are marked; no order means
-- anything but that of the marked
pub record DepTable : Type 0 where
  pub names : List ℕ
  pub dependencies : List Dependency
  pub marked : List ℕ

-- whether the two say the same
unfoldable pub same_dependency : Dependency → Dependency → Bool
same_dependency d e = same_kind d.kind e.kind && d.source == e.source && d.dependent == e.dependent

-- an arrow from source to dependent for each dependency of this kind
unfoldable pub arrows_of : Kind → List Dependency → List Arrow
arrows_of kind dependencies = map (λ (d : Dependency). (d.source, d.dependent)) (filter (λ (d : Dependency). same_kind kind d.kind) dependencies)

-- the arrows within classes: a group commit leads both ways
unfoldable pub class_ways : List Dependency → List Arrow
class_ways dependencies = both_ways (arrows_of Gc dependencies)

-- the arrows of order: a source ends before its dependents commit
unfoldable pub order_ways : List Dependency → List Arrow
order_ways dependencies = arrows_of Cd dependencies ++ arrows_of Ad dependencies

-- the arrows along which an abort spreads
unfoldable pub doom_ways : List Dependency → List Arrow
doom_ways dependencies = class_ways dependencies ++ arrows_of Ad dependencies

-- whether the two are in one class
unfoldable pub class_in : List Dependency → ℕ → ℕ → Bool
class_in dependencies a b = linked (class_ways dependencies) a b

-- whether an abort of a aborts b
unfoldable pub doomed_in : List Dependency → ℕ → ℕ → Bool
doomed_in dependencies a b = linked (doom_ways dependencies) a b

-- whether a dependency of this kind of b on a would close a cycle of classes
unfoldable pub would_cycle_in : List Dependency → Kind → ℕ → ℕ → Bool
would_cycle_in dependencies kind a b = closes_cycle kind (class_ways dependencies) (order_ways dependencies) a b

-- whether a dependency leads from t or to it
unfoldable pub is_linked_in : List Dependency → ℕ → Bool
is_linked_in dependencies t = list_any (λ (d : Dependency). d.source == t || d.dependent == t) dependencies

-- whether a member of t's class depends on a source outside it, by a commit or an abort dependency
unfoldable pub outside_source_in : List Dependency → ℕ → Bool
outside_source_in dependencies t = has_outside (class_ways dependencies) (order_ways dependencies) t

-- whether u is outside the class of t, and an arrow of order leads from it to a member
unfoldable pub is_outside_of : List Arrow → List Arrow → ℕ → ℕ → Bool
is_outside_of classes orders t u = not (linked classes t u) && list_any (λ (arrow : Arrow). arrow.0 == u && linked classes t arrow.1) orders

-- whether u is a source outside t's class, on which a member depends by a commit or an abort dependency
unfoldable pub is_outside_source_in : List Dependency → ℕ → ℕ → Bool
is_outside_source_in dependencies t u = is_outside_of (class_ways dependencies) (order_ways dependencies) t u
