-- How the parts of a model ended.
use Rattle.std.specs.Prelude.{◌≡◌, List, [], ◌∷◌, Some}
use Rattle.asset_names.specs.declared.statuses.End.{End}
use Rattle.asset_names.specs.Steps.{Entry, applied}
use Rattle.asset_names.specs.Endings.{end_of}
use Rattle.asset_models.specs.declared.parts.Part.{Part}

-- each of the parts has ended so
unfoldable pub AllEnded : End → List Entry → List Part → Type 0
AllEnded how entries [] = Unit {0}
AllEnded how entries (p ∷ parts) = (end_of (applied entries) p.name.0 ≡ Some how) × AllEnded how entries parts
