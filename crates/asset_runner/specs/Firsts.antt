-- In which place a `Finished` of a name came back first.
use Rattle.std.specs.Prelude.{◌≡◌, ℕ, ◌+◌, cond, List, [], ◌∷◌, Option, Some, None, nat_eq}
use Rattle.indexmap.specs.IndexMap.{IndexMap, get}
use Rattle.asset_runner.specs.Runs.{JobRun, is_of}

-- the place of the first run whose body answered the `Finished` of t, if the first of the list has this place
abbrev pub first_of : ℕ → List JobRun → ℕ → Option ℕ
first_of place [] t = None
first_of place (run ∷ runs) t = cond (is_of t run.answered) (Some place) (first_of (place + 1) runs t)

-- the map has for each name the place of the first such run, from this place on
abbrev pub HasFirsts : {S : Type 0} → IndexMap ℕ ℕ S → ℕ → List JobRun → Type 0
HasFirsts firsts place runs = (t : ℕ) → get nat_eq firsts t ≡ first_of place runs t
