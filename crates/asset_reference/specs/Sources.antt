-- What one transaction, and one dependency, say of the class of another.
use Rattle.std.specs.Prelude.{ℕ, Bool, false, ◌&&◌, ◌||◌, not, List}
use Rattle.std.specs.List.{list_any}
use Rattle.asset_names.specs.declared.steps.Kind.TheVariants.{Cd, Ad}
use Rattle.asset_names.specs.declared.steps.Step.{Step}
use Rattle.asset_names.specs.declared.steps.Step.TheVariants.{Depend}
use Rattle.asset_names.specs.Arrows.{Arrow}
use Rattle.asset_names.specs.Endings.{live, status, same_class, dependencies}
use Rattle.asset_names.specs.Answers.{is_completed}

-- n has completed, or is not of the class of t
unfoldable pub completes : List Step → ℕ → ℕ → Bool
completes steps t n = not (same_class steps t n) || is_completed (status steps n)

-- a dependency of b on a leads into the class of t from a source outside it
unfoldable pub outside_by : List Step → ℕ → ℕ → ℕ → Bool
outside_by steps t a b = (live steps a && live steps b) && (same_class steps t b && not (same_class steps t a))

-- whether a step makes such a dependency, of commit or of abort
unfoldable pub opens_outside : List Step → ℕ → Step → Bool
opens_outside steps t (Depend Cd a b) = outside_by steps t a.0 b.0
opens_outside steps t (Depend Ad a b) = outside_by steps t a.0 b.0
opens_outside steps t step = false

-- whether one of these steps makes such a dependency, of commit or of abort
unfoldable pub outside_within : List Step → ℕ → List Step → Bool
outside_within steps t some = list_any (λ (arrow : Arrow). outside_by steps t arrow.0 arrow.1) (dependencies Cd some)
    || list_any (λ (arrow : Arrow). outside_by steps t arrow.0 arrow.1) (dependencies Ad some)
