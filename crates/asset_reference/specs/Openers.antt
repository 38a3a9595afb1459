-- Those who permit an operation to anybody, by what one entry adds.
use Rattle.std.specs.Prelude.{ℕ, Bool, cond, ◌&&◌, List, [], ◌∷◌}
use Rattle.std.specs.List.{list_any}
use Rattle.asset_names.specs.declared.operations.Op.{Op}
use Rattle.asset_names.specs.declared.steps.Step.{Step}
use Rattle.asset_names.specs.Arrows.{lists}
use Rattle.asset_names.specs.Endings.{live}
use Rattle.asset_names.specs.Operations.{permits_along}
use Rattle.asset_reference.specs.declared.openers.Opened.{Opened}
use Rattle.asset_reference.specs.declared.openers.Opened.TheVariants.{Nobody, Giver, Taker}

-- the names that are added to those who stand
unfoldable pub opened_names : Opened → List ℕ → List ℕ
opened_names Nobody names = []
opened_names (Giver giver) names = giver.0 ∷ []
opened_names (Taker giver taker) names = cond (lists names giver.0) (taker.0 ∷ []) []

-- whether permits to named transactions lead from u to a live one of the names
unfoldable pub reached : List Step → ℕ → ℕ → Op → List ℕ → Bool
reached steps u x op names = list_any (λ a. live steps a && permits_along steps u a x op) names
