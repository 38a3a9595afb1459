-- The table of a long history.
use Rattle.std.specs.Prelude.{ℕ, ◌+◌, ◌*◌, Bool, Option, None, Some, List, [], ◌∷◌, ◌++◌, flat_map, length, codes}
use Rattle.std.specs.Fmt.{decimal}
use Rattle.asset_names.specs.declared.statuses.Status.{Status}
use Rattle.asset_names.specs.Steps.{Entry}
use Rattle.asset_deletion.specs.Grouping.{Grouping}
use Rattle.asset_lanes.specs.declared.summing.Summary.{Summary}
use Rattle.asset_lanes.specs.Summaries.{summaries}
use Rattle.asset_picture.specs.Layout.{pieces}
use Rattle.asset_picture.specs.Shapes.{style_text, status_word, state_word, open_text}

-- how high a table of `rows` rows is: 20 pixels for each
unfoldable pub table_height : ℕ → ℕ
table_height rows = 70 + 20 * rows

-- the start of a table of a history with `count` entries
unfoldable pub heading_text : ℕ → List ℕ
heading_text count = pieces (codes "<text class='key' x='20' y='28'>" ∷ decimal count
    ∷ codes " entries</text>\n<text class='row' y='50'><tspan class='object' x='20'>transaction</tspan><tspan class='object' x='190'>group</tspan><tspan class='object' x='270'>the group is</tspan><tspan class='object' x='380'>status</tspan><tspan class='object' x='470'>steps</tspan><tspan class='object' x='550'>first</tspan><tspan class='object' x='630'>last</tspan>\n" ∷ [])

-- a row: a transaction, the number of its group, whether that is dead, and its status
unfoldable pub row_text : ℕ → ℕ → Bool → Status → List ℕ
row_text n group is_dead status = pieces (codes "<tspan x='20' dy='20'>" ∷ decimal n ∷ codes "</tspan><tspan x='190'>" ∷ decimal group ∷ codes "</tspan><tspan x='270'>" ∷ state_word is_dead
    ∷ codes "</tspan><tspan x='380'>" ∷ status_word status ∷ codes "</tspan>" ∷ [])

-- a number, if there is one
unfoldable pub number_text : Option ℕ → List ℕ
number_text None = []
number_text (Some n) = decimal n

-- how many entries a transaction asked for
unfoldable pub count_text : ℕ → List ℕ
count_text count = pieces (codes "<tspan x='470'>" ∷ decimal count ∷ codes "</tspan><tspan x='550'>" ∷ [])

-- the numbers of a first and a last entry
unfoldable pub both_text : Option ℕ → Option ℕ → List ℕ
both_text first last = number_text first ++ (codes "</tspan><tspan x='630'>" ++ (number_text last ++ codes "</tspan>\n"))

-- the row of a transaction
unfoldable pub row_for : Summary → List ℕ
row_for summary = row_text summary.t summary.group summary.is_dead summary.status ++ (count_text summary.count ++ both_text summary.first summary.last)

-- the rows of transactions
unfoldable pub rows_text : List Summary → List ℕ
rows_text summaries = flat_map row_for summaries

-- the start of a table of `count` entries in `rows` rows
unfoldable pub table_frame : ℕ → ℕ → List ℕ
table_frame count rows = open_text 720 (table_height rows) ++ (style_text ++ heading_text count)

-- the table of `count` entries
unfoldable pub table_text : ℕ → List Summary → List ℕ
table_text count summaries = table_frame count (length summaries) ++ (rows_text summaries ++ codes "</text>\n</svg>\n")

-- the table of entries with these groups and rows
unfoldable pub table_in : Grouping → List ℕ → List Entry → List ℕ
table_in groups rows entries = table_text (length entries) (summaries groups rows entries)
