-- The calls of a model in a history where others may act between them.
use Rattle.std.specs.Prelude.{◌≡◌, Bool, true, List, [], ◌∷◌, ◌++◌}
use Rattle.std.specs.List.{list_all}
use Rattle.asset_names.specs.Steps.{Entry}

-- the new entries are the old ones with others, each of which passes the test
abbrev pub OnlyOthers : (Entry → Bool) → List Entry → List Entry → Type 0
OnlyOthers test old new = (others : List Entry) × (new ≡ others ++ old) × (list_all test others ≡ true)

-- The history has grown from the old entries to the new ones by these calls, newest first. Others may stand before, between and
-- after them, each of which passes the test.
unfoldable pub IsAmid : (Entry → Bool) → List Entry → List Entry → List Entry → Type 0
IsAmid test old [] new = OnlyOthers test old new
IsAmid test old (call ∷ calls) new = (before : List Entry) × OnlyOthers test (call ∷ before) new × IsAmid test old calls before
