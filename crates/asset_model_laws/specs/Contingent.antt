-- What a contingent model leaves.
use Rattle.std.specs.Prelude.{◌≡◌, ◌⊎◌, ℕ, true, List, [], ◌∷◌, ◌++◌}
use Rattle.asset_names.specs.declared.statuses.End.TheVariants.{Aborted}
use Rattle.asset_names.specs.Arrows.{lists}
use Rattle.asset_names.specs.Steps.{Entry, applied, initiated}
use Rattle.asset_models.specs.declared.parts.Part.{Part}
use Rattle.asset_model_laws.specs.Ended.{AllEnded}

-- t is one of the parts
unfoldable pub IsOneOfParts : List Part → ℕ → Type 0
IsOneOfParts [] t = ⊥
IsOneOfParts (p ∷ parts) t = (t ≡ p.name.0) ⊎ IsOneOfParts parts t

-- t is the first of the parts
unfoldable pub IsFirstPart : List Part → ℕ → Type 0
IsFirstPart [] t = ⊥
IsFirstPart (p ∷ parts) t = t ≡ p.name.0

-- All parts that the calls initiated have aborted, but perhaps the last of them: so at most one has committed, and all before
-- it have aborted.
pub record OneAtMost (parts : List Part) (calls entries : List Entry) : Type 0 where
  pub gone : List Part
  pub left : List Part
  pub split : parts ≡ gone ++ left
  pub fell : AllEnded Aborted entries gone
  pub tried : (t : ℕ) → lists (initiated (applied calls)) t ≡ true → IsOneOfParts gone t ⊎ IsFirstPart left t
