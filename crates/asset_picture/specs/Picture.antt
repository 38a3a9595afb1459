-- The whole picture.
use Rattle.std.specs.Prelude.{ℕ, Bool, cond, nat_lt, List, [], ◌∷◌, ◌++◌, flat_map, length, codes}
use Rattle.std.specs.Fmt.{decimal}
use Rattle.std.specs.List.{range_with_len}
use Rattle.asset_names.specs.Steps.{Entry}
use Rattle.asset_deletion.specs.Grouping.{Grouping, grouping_of}
use Rattle.asset_lanes.specs.declared.spanning.Lane.{Lane}
use Rattle.asset_lanes.specs.declared.marking.Mark.{Mark}
use Rattle.asset_lanes.specs.declared.pointing.Arrow.{Arrow}
use Rattle.asset_picture.specs.Layout.{pieces, are_wide, x_at, y_at, columns}
use Rattle.asset_lanes.specs.Lanes.{lane_names, lanes}
use Rattle.asset_lanes.specs.Marks.{marks}
use Rattle.asset_lanes.specs.Arrows.{arrows}
use Rattle.asset_picture.specs.Shapes.{open_text, style_text, legend_text, lane_text, mark_text, arrow_text}
use Rattle.asset_picture.specs.Tables.{table_in}

-- the number of an entry above its column
unfoldable pub column_number_text : Bool → ℕ → List ℕ
column_number_text wide number = pieces (codes "<text class='step' x='" ∷ decimal (x_at wide number) ∷ codes "' y='76'>" ∷ decimal number ∷ codes "</text>\n" ∷ [])

-- the numbers of `count` entries
unfoldable pub column_numbers_text : Bool → ℕ → List ℕ
column_numbers_text wide count = flat_map (column_number_text wide) (range_with_len 0 count)

-- all lanes, marks and arrows
unfoldable pub lanes_text : Bool → ℕ → List Lane → List ℕ
lanes_text wide count lanes = flat_map (lane_text wide count) lanes

unfoldable pub marks_text : Bool → List Mark → List ℕ
marks_text wide marks = flat_map (mark_text wide) marks

unfoldable pub arrows_text : Bool → List Arrow → List ℕ
arrows_text wide arrows = flat_map (arrow_text wide) arrows

-- the start of a picture of this size, with its legend
unfoldable pub frame_text : ℕ → ℕ → List ℕ
frame_text width height = open_text width height ++ (style_text ++ legend_text)

-- the start of a picture of `count` entries in `rows` rows
unfoldable pub frame_for : Bool → ℕ → ℕ → List ℕ
frame_for wide count rows = frame_text (x_at wide (columns count)) (y_at rows)

-- arrows and marks, to the end
unfoldable pub rest_text : Bool → List Arrow → List Mark → List ℕ
rest_text wide arrows marks = arrows_text wide arrows ++ (marks_text wide marks ++ codes "</svg>\n")

-- a picture of `count` entries: later shapes cover earlier ones
unfoldable pub shapes_in : Bool → ℕ → List Lane → List Arrow → List Mark → List ℕ
shapes_in wide count lanes arrows marks = frame_for wide count (length lanes) ++ (lanes_text wide count lanes ++ (column_numbers_text wide count ++ rest_text wide arrows marks))

-- its columns are wide if some mark has a long number
unfoldable pub shapes_text : ℕ → List Lane → List Arrow → List Mark → List ℕ
shapes_text count lanes arrows marks = shapes_in (are_wide marks) count lanes arrows marks

-- the picture of entries with these groups and rows
unfoldable pub drawing_in : Grouping → List ℕ → List Entry → List ℕ
drawing_in groups rows entries = shapes_text (length entries) (lanes groups rows entries) (arrows groups rows entries) (marks groups rows entries)

-- a picture if there are at most 200 entries, and a table otherwise
unfoldable pub picture_in : Grouping → List Entry → List ℕ
picture_in groups entries = cond (nat_lt 200 (length entries)) (table_in groups (lane_names groups) entries) (drawing_in groups (lane_names groups) entries)

-- the picture of entries
unfoldable pub picture_text : List Entry → List ℕ
picture_text entries = picture_in (grouping_of entries) entries
