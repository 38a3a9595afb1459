-- What the children of a nested transaction leave to their parent.
use Rattle.std.specs.Prelude.{◌≡◌, ◌⊎◌, ℕ, List, [], ◌∷◌, ◌++◌, Some}
use Rattle.asset_names.specs.declared.names.Txn.{Txn}
use Rattle.asset_names.specs.declared.sets.ObSet.TheVariants.{All}
use Rattle.asset_names.specs.declared.statuses.End.TheVariants.{Aborted}
use Rattle.asset_names.specs.declared.steps.Step.TheVariants.{Delegate}
use Rattle.asset_names.specs.declared.replies.Reply.TheVariants.{Done}
use Rattle.asset_names.specs.Steps.{Entry, applied}
use Rattle.asset_names.specs.Endings.{end_of}
use Rattle.asset_models.specs.declared.parts.Part.{Part}
use Rattle.asset_model_laws.specs.Owners.{responsible}

-- at an entry of the history u has handed over all to t: t is then responsible for all that u was
pub record HandsOver (u t : Txn) (entries : List Entry) : Type 0 where
  pub newer : List Entry
  pub older : List Entry
  pub split : entries ≡ newer ++ (Delegate u t All, Done) ∷ older
  pub all : (n : ℕ) → responsible (applied older) n ≡ Some u.0 → responsible (applied ((Delegate u t All, Done) ∷ older)) n ≡ Some t.0

-- each child has handed over all to t, or has aborted
abbrev pub AllHandOver : Txn → List Entry → List Part → Type 0
AllHandOver t entries [] = Unit {0}
AllHandOver t entries (child ∷ children) = (HandsOver child.name t entries ⊎ (end_of (applied entries) child.name.0 ≡ Some Aborted)) × AllHandOver t entries children
