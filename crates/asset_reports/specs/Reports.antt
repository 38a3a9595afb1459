-- What reports on a history say.
use Rattle.std.specs.Prelude.{ℕ, ℤ, cond, List, [], ◌∷◌, ◌++◌, flat_map, codes}
use Rattle.asset_names.specs.declared.names.Ob.{Ob}
use Rattle.asset_names.specs.Steps.{Opening, Entry}
use Rattle.asset_names.specs.Groups.{without}
use Rattle.asset_laws.specs.Serial.{serial, shares_nothing}
use Rattle.asset_entries.specs.Recorded.{Recorded}
use Rattle.asset_history.specs.Named.{names_of}
use Rattle.asset_printing.specs.Printed.{object_text, step_text}

-- the line of an object with its value
unfoldable pub opening_line : Ob × ℤ → List ℕ
opening_line given = object_text given.0 given.1 ++ 10 ∷ []

-- the lines of an opening, in its order
unfoldable pub opening_text : Opening → List ℕ
opening_text opening = flat_map opening_line opening

-- the lines of the steps of the entries, oldest first
unfoldable pub steps_text : List Entry → List ℕ
steps_text [] = []
steps_text (entry ∷ older) = steps_text older ++ (step_text entry.0 ++ 10 ∷ [])

-- a history as a script: its opening and its steps
unfoldable pub history_text : Opening → List Entry → List ℕ
history_text opening entries = opening_text opening ++ steps_text entries

-- the script that is left without the dead groups
unfoldable pub pruned_text : Recorded → List ℕ
pruned_text history = history_text history.opening (without history.entries (names_of history.entries))

-- the script of those who committed, one after another, or one line if they shared something
unfoldable pub serial_text : Recorded → List ℕ
serial_text history = cond (shares_nothing history.entries) (history_text history.opening (serial history.entries)) (codes "shared\n")
