-- What calls say of every history that the tables show.
use Rattle.std.specs.Prelude.{Bool, List, ◌∷◌}
use Rattle.asset_names.specs.declared.steps.Step.{Step}
use Rattle.asset_names.specs.Steps.{Opening, Entry, applied}
use Rattle.asset_names.specs.Orderly.{IsOrderly}
use Rattle.asset_ends.specs.Shows.{Shows}
use Rattle.asset_ends.specs.Standing.{Standing, values_of, step_if}

-- the fact holds of every history that the tables show
abbrev pub ForShown : Standing → (Opening → List Step → Type 0) → Type 0
ForShown tables fact = (opening : Opening) (steps : List Step) → Shows opening steps (values_of tables) → fact opening steps

-- the tables show every history that they showed before
abbrev pub ShowsStill : Standing → Standing → Type 0
ShowsStill before later = ForShown before (λ opening steps. Shows opening steps (values_of later))

-- the tables show every history that they showed before, with the step
abbrev pub ShowsWith : Standing → Step → Standing → Type 0
ShowsWith before step later = ForShown before (λ opening steps. Shows opening (step ∷ steps) (values_of later))

-- the same if the step takes effect; otherwise they show the history as it was
abbrev pub ShowsWithIf : Standing → Bool → Step → Standing → Type 0
ShowsWithIf before effect step later = ForShown before (λ opening steps. Shows opening (step_if effect step steps) (values_of later))

-- the tables show every orderly history that they showed before, with the step
abbrev pub ShowsOrderly : Standing → Step → Standing → Type 0
ShowsOrderly before step later = ForShown before (λ opening steps. IsOrderly steps → Shows opening (step ∷ steps) (values_of later))

-- the tables show every orderly history that they showed before, with the entry
abbrev pub ShowsEntry : Standing → Entry → Standing → Type 0
ShowsEntry before entry later = (opening : Opening) (older : List Entry) → Shows opening (applied older) (values_of before) → IsOrderly (applied older) → Shows opening (applied (entry ∷ older)) (values_of later)
