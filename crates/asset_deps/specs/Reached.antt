-- What a search goes along: dependencies of some kinds from source to dependent, and all group commits from dependent to
-- source. So a group commit leads both ways if it is of one of the kinds. For `Order`, which leaves it out, it leads back only.
use Rattle.std.specs.Prelude.{ℕ, Bool, true, false, ◌==◌, ◌&&◌, List, ◌++◌, map, filter}
use Rattle.std.specs.List.{list_any}
use Rattle.slab.specs.Slab.{Slab}
use Rattle.asset_names.specs.declared.steps.Kind.{Kind}
use Rattle.asset_names.specs.declared.steps.Kind.TheVariants.{Cd, Ad, Gc}
use Rattle.asset_names.specs.Arrows.{Arrow}
use Rattle.asset_chains.specs.Chained.{Chained}
use Rattle.asset_marks.specs.Searched.{arrows_along}
use Rattle.asset_deps.specs.declared.kinds.Kinds.{Kinds}
use Rattle.asset_deps.specs.declared.kinds.Kinds.TheVariants.{Class, Dooming, Order, All}
use Rattle.asset_deps.specs.Dependencies.{Dependency}

-- whether the kind is among them
unfoldable pub has_kind : Kinds → Kind → Bool
has_kind Class Gc = true
has_kind Class Cd = false
has_kind Class Ad = false
has_kind Dooming Gc = true
has_kind Dooming Ad = true
has_kind Dooming Cd = false
has_kind Order Gc = false
has_kind Order Cd = true
has_kind Order Ad = true
has_kind All kind = true

-- whether the dependency is of one of the kinds
unfoldable pub of_kinds : Kinds → Dependency → Bool
of_kinds kinds d = has_kind kinds d.kind

-- whether a dependency of one of the kinds leads from the one to the other
unfoldable pub depends_by : Kinds → List Dependency → ℕ → ℕ → Bool
depends_by kinds dependencies u v = list_any (λ (d : Dependency). of_kinds kinds d && d.source == u && d.dependent == v) dependencies

-- an arrow from source to dependent for each dependency of one of the kinds
unfoldable pub arrows_in : Kinds → List Dependency → List Arrow
arrows_in kinds dependencies = map (λ (d : Dependency). (d.source, d.dependent)) (filter (of_kinds kinds) dependencies)

-- the same, and back along group commits
unfoldable pub ways_in : Kinds → List Dependency → List Arrow
ways_in kinds dependencies = arrows_in kinds dependencies ++ map (λ (arrow : Arrow). (arrow.1, arrow.0)) (arrows_in Class dependencies)

-- the arrows between the seats of sources and dependents, and back along group commits
unfoldable pub seat_ways : Kinds → Slab Dependency → Chained → Chained → List Arrow
seat_ways kinds links along across = arrows_along (of_kinds kinds) links along across ++ arrows_along (of_kinds Class) links across along
