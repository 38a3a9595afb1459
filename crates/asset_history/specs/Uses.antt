-- Who uses an object: who opens it by open permits, and who operates on it.
use Rattle.std.specs.Prelude.{ℕ, Bool, ◌==◌, ◌&&◌, ◌||◌, List, [], map}
use Rattle.std.specs.List.{list_any}
use Rattle.asset_names.specs.declared.names.Ob.{Ob}
use Rattle.asset_names.specs.declared.steps.Step.{Step}
use Rattle.asset_names.specs.declared.steps.Step.TheVariants.{PermitAny}
use Rattle.asset_names.specs.Arrows.{Arrow}
use Rattle.asset_names.specs.Steps.{Entry}
use Rattle.asset_names.specs.Groups.{actor, partner, operates_on}

-- the objects that a step opens
unfoldable pub opened_obs : Step → List Ob
opened_obs (PermitAny giver obs ops) = obs
opened_obs step = []

-- whether a list has the object
unfoldable pub has_object : List Ob → ℕ → Bool
has_object obs x = list_any (λ (y : Ob). y.0 == x) obs

-- whether a step opens x
unfoldable pub opens_on : Step → ℕ → Bool
opens_on step x = has_object (opened_obs step) x

-- whether a opens x, and whether t operates on x
unfoldable pub opens : List Step → ℕ → ℕ → Bool
opens steps a x = list_any (λ (step : Step). opens_on step x && (actor step).0 == a) steps

unfoldable pub operates : List Step → ℕ → ℕ → Bool
operates steps t x = list_any (λ (step : Step). operates_on step x && (actor step).0 == t) steps

-- the join of the two transactions that an entry's step acts on
unfoldable pub partners : List Entry → List Arrow
partners entries = map (λ (entry : Entry). ((actor entry.0).0, (partner entry.0).0)) entries

-- whether t opens x or operates on it
unfoldable pub uses : List Step → ℕ → ℕ → Bool
uses steps t x = opens steps t x || operates steps t x
