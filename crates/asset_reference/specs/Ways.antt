-- The arrows of dependencies in the order of their entries, and going along one of them once.
use Rattle.std.specs.Prelude.{ℕ, Bool, false, cond, ◌&&◌, ◌||◌, ◌==◌, List, [], ◌∷◌, flat_map}
use Rattle.std.specs.List.{list_any}
use Rattle.asset_names.specs.declared.steps.Kind.{Kind}
use Rattle.asset_names.specs.declared.steps.Kind.TheVariants.{Ad, Gc}
use Rattle.asset_names.specs.declared.steps.Step.{Step}
use Rattle.asset_names.specs.declared.steps.Step.TheVariants.{Depend}
use Rattle.asset_names.specs.Arrows.{Arrow, linked, among}
use Rattle.asset_names.specs.Steps.{Entry, takes_effect}
use Rattle.asset_reference.specs.declared.endings.Along.{Along}
use Rattle.asset_reference.specs.declared.endings.Along.TheVariants.{Aborts, Paths}
use Rattle.asset_reference.specs.declared.endings.Way.{Way}
use Rattle.asset_reference.specs.declared.endings.Way.TheVariants.{Nowhere, Forth, Both}

-- the way that a dependency of this kind of b on a opens
unfoldable pub way_of : Along → Kind → ℕ → ℕ → List Arrow
way_of along Gc a b = (a, b) ∷ (b, a) ∷ []
way_of Paths kind a b = (a, b) ∷ []
way_of Aborts Ad a b = (a, b) ∷ []
way_of along kind a b = []

-- the way that a step opens
unfoldable pub way_by : Along → Step → List Arrow
way_by along (Depend kind a b) = way_of along kind a.0 b.0
way_by along step = []

-- the same of an entry, whose step may have taken no effect
unfoldable pub way_at : Along → Entry → List Arrow
way_at along entry = cond (takes_effect entry.0 entry.1) (way_by along entry.0) []

-- the ways that the steps open
unfoldable pub ways : Along → List Step → List Arrow
ways along steps = flat_map (way_by along) steps

-- the arrows of a way
unfoldable pub way_arrows : Way → List Arrow
way_arrows Nowhere = []
way_arrows (Forth a b) = (a.0, b.0) ∷ []
way_arrows (Both a b) = (a.0, b.0) ∷ (b.0, a.0) ∷ []

-- whether one of the arrows leads away from a name, and whether one leads to it
unfoldable pub leaves : List Arrow → ℕ → Bool
leaves arrows a = list_any (λ (arrow : Arrow). arrow.0 == a) arrows

unfoldable pub enters : List Arrow → ℕ → Bool
enters arrows b = list_any (λ (arrow : Arrow). arrow.1 == b) arrows

-- whether a way on from a to b goes along one more way, and else along the arrows among those who pass the test
unfoldable pub goes_by : (ℕ → Bool) → Way → List Arrow → ℕ → ℕ → Bool
goes_by test Nowhere arrows a b = false
goes_by test (Forth u v) arrows a b = (test u.0 && test v.0) && (linked (among test arrows) a u.0 && linked (among test arrows) v.0 b)
goes_by test (Both u v) arrows a b = (test u.0 && test v.0)
    && ((linked (among test arrows) a u.0 || linked (among test arrows) a v.0) && (linked (among test arrows) u.0 b || linked (among test arrows) v.0 b))
