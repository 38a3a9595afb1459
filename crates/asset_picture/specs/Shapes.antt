-- The text of what is drawn.
use Rattle.std.specs.Prelude.{ℕ, ◌%◌, ◌==◌, Bool, cond, List, [], ◌∷◌, ◌++◌, Option, None, Some, unwrap_or, codes}
use Rattle.std.specs.Fmt.{decimal, signed_decimal}
use Rattle.asset_names.specs.declared.statuses.Status.{Status}
use Rattle.asset_names.specs.declared.statuses.Status.TheVariants as Status'
use Rattle.asset_lanes.specs.declared.spanning.Lane.{Lane}
use Rattle.asset_lanes.specs.declared.marking.Mark.{Mark}
use Rattle.asset_names.specs.declared.operations.Op.{Op}
use Rattle.asset_names.specs.declared.operations.Op.TheVariants as Op'
use Rattle.asset_lanes.specs.declared.pointing.Arrow.{Arrow}
use Rattle.asset_lanes.specs.declared.pointing.ArrowKind.{ArrowKind}
use Rattle.asset_lanes.specs.declared.pointing.ArrowKind.TheVariants as ArrowKind'
use Rattle.asset_picture.specs.Layout.{pieces, x_at, y_at, bow_at, pale}

-- the colours on a light screen
unfoldable pub light_text : List ℕ
light_text = codes "<style>\n.page{fill:#ffffff}.even{fill:#f3f5f8}.odd{fill:#e8ecf1}\ntext{font:11px ui-monospace,Menlo,Consolas,'DejaVu Sans Mono',monospace;fill:#1f2328;text-anchor:middle}\n.name{font-size:13px;font-weight:bold;text-anchor:end}.note,.step{font-size:10px;fill:#59636e}\n.note,.key,.row{text-anchor:start}.object{font-weight:bold}\n.lane{fill:none;stroke-width:5;stroke:#818b98}\n.committed .lane{stroke:#2da44e}.aborted .lane{stroke:#e5534b}.live .lane{stroke:#539bf5}\n.read circle{fill:#ffffff;stroke:#1f2328;stroke-width:2}.write rect{fill:#1f2328}.add path{fill:none;stroke:#1f2328;stroke-width:3}\n.arrow{fill:none;stroke-width:1.5}.source{stroke:#818b98;stroke-width:1;stroke-opacity:.7;marker-end:url(#s)}\n.permit,.open{stroke:#8250df}.permit{marker-end:url(#p)}.delegate{stroke:#bc4c00;stroke-width:2.5;marker-end:url(#d)}\n.cd,.ad,.gc{stroke:#0e8a93;marker-end:url(#t)}.cd{stroke-dasharray:4 3}.gc{marker-start:url(#u)}\n.dead{opacity:.5}\n"

-- and on a dark one
unfoldable pub dark_text : List ℕ
dark_text = codes "@media (prefers-color-scheme:dark){\n.page{fill:#0d1117}.even{fill:#171d26}.odd{fill:#1f2733}text{fill:#e6edf3}.note,.step{fill:#9198a1}\n.read circle{fill:#0d1117;stroke:#e6edf3}.write rect{fill:#e6edf3}.add path{stroke:#e6edf3}.permit,.open{stroke:#a475f9}\n}\n</style>\n"

-- the heads of arrows, and the page
unfoldable pub heads_text : List ℕ
heads_text = codes "<defs>\n<marker id='s' markerWidth='7' markerHeight='7' refX='11' refY='3.5' orient='auto' markerUnits='userSpaceOnUse'><path d='M0 0 7 3.5 0 7z' fill='#818b98'/></marker>\n<marker id='p' markerWidth='9' markerHeight='9' refX='9' refY='4.5' orient='auto' markerUnits='userSpaceOnUse'><path d='M0 0 9 4.5 0 9z' fill='#8250df'/></marker>\n<marker id='d' markerWidth='9' markerHeight='9' refX='9' refY='4.5' orient='auto' markerUnits='userSpaceOnUse'><path d='M0 0 9 4.5 0 9z' fill='#bc4c00'/></marker>\n<marker id='t' markerWidth='9' markerHeight='9' refX='9' refY='4.5' orient='auto' markerUnits='userSpaceOnUse'><path d='M0 0 9 4.5 0 9z' fill='#0e8a93'/></marker>\n<marker id='u' markerWidth='9' markerHeight='9' refX='0' refY='4.5' orient='auto' markerUnits='userSpaceOnUse'><path d='M9 0 0 4.5 9 9z' fill='#0e8a93'/></marker>\n</defs>\n<rect class='page' width='100%' height='100%'/>\n"

-- the colours, the heads of arrows, and the page
unfoldable pub style_text : List ℕ
style_text = light_text ++ (dark_text ++ heads_text)

-- what the shapes and colours mean
unfoldable pub legend_text : List ℕ
legend_text = codes "<g class='committed'><path class='lane' d='M20 22H50'/></g><text class='key' x='56' y='26'>committed</text>\n<g class='aborted'><path class='lane' d='M140 22H170'/></g><text class='key' x='176' y='26'>aborted</text>\n<g class='live'><path class='lane' d='M250 22H280'/></g><text class='key' x='286' y='26'>live</text>\n<g class='read' transform='translate(345 22)'><circle r='5'/></g><text class='key' x='356' y='26'>read</text>\n<g class='write' transform='translate(415 22)'><rect x='-5' y='-5' width='10' height='10'/></g><text class='key' x='426' y='26'>write</text>\n<g class='add' transform='translate(475 22)'><path d='M-6 0H6M0-6V6'/></g><text class='key' x='486' y='26'>add</text>\n<text class='note' x='522' y='26'>below a mark: object, value; pale: dead group</text>\n<path class='arrow source' d='M20 44H50'/><text class='key' x='56' y='48'>read to its source</text>\n<path class='arrow permit' d='M200 44H230'/><text class='key' x='236' y='48'>permit</text>\n<path class='arrow delegate' d='M300 44H330'/><text class='key' x='336' y='48'>delegate</text>\n<path class='arrow cd' d='M415 44H445'/><text class='key' x='451' y='48'>depend cd</text>\n<path class='arrow ad' d='M530 44H560'/><text class='key' x='566' y='48'>ad</text>\n<path class='arrow gc' d='M600 44H630'/><text class='key' x='636' y='48'>gc</text>\n<path class='arrow open' d='M684 44m-8 0a8 8 0 1 0 16 0a8 8 0 1 0-16 0'/><text class='key' x='698' y='48'>open permit</text>\n"

-- the start of a picture of this size
unfoldable pub open_text : ℕ → ℕ → List ℕ
open_text width height = pieces (codes "<svg xmlns='http://www.w3.org/2000/svg' version='1.1' width='" ∷ decimal width ∷ codes "' height='" ∷ decimal height ∷ codes "' viewBox='0 0 " ∷ decimal width ∷ codes " " ∷ decimal height ∷ codes "'>\n" ∷ [])

-- ---- lanes

-- the word of a status, which is the same for all who are live
unfoldable pub status_word : Status → List ℕ
status_word Status'.Unknown = codes "unknown"
status_word Status'.Committed = codes "committed"
status_word Status'.Aborted = codes "aborted"
status_word status = codes "live"

-- groups have two shades in turn
unfoldable pub band_word : ℕ → List ℕ
band_word group = cond (group % 2 == 0) (codes "even") (codes "odd")

-- the word of a group, by whether it is dead
unfoldable pub state_word : Bool → List ℕ
state_word is_dead = cond is_dead (codes "dead") (codes "committed")

-- the band of a lane, with its group and its name, which stands before its start
unfoldable pub label_text : Bool → Lane → List ℕ
label_text wide lane = pieces (codes "<rect class='" ∷ band_word lane.group ∷ codes "' y='-26' width='100%' height='56'/><text class='note' x='16' y='-12'>group " ∷ decimal lane.group ∷ codes " " ∷ state_word lane.is_dead
    ∷ codes "</text><text class='name' x='" ∷ decimal (x_at wide (unwrap_or lane.span.start 0)) ∷ codes "' dx='-12' y='5'>" ∷ decimal lane.t ∷ codes "</text>" ∷ [])

-- the end of a line: a bar, or the place after the last entry if the transaction is live
unfoldable pub stop_text : Bool → ℕ → Option ℕ → List ℕ
stop_text wide count None = decimal (x_at wide count)
stop_text wide count (Some stop) = pieces (decimal (x_at wide stop) ∷ codes "v-7v14" ∷ [])

-- the start of a line: a bar
unfoldable pub line_start_text : Bool → ℕ → List ℕ
line_start_text wide start = pieces (codes "<path class='lane' d='M" ∷ decimal (x_at wide start) ∷ codes " 0v-7v14v-7H" ∷ [])

-- the line of a lane from its start
unfoldable pub line_from : Bool → ℕ → ℕ → Option ℕ → List ℕ
line_from wide count start stop = line_start_text wide start ++ (stop_text wide count stop ++ codes "'/>")

-- the line of a lane, if its transaction was initiated
unfoldable pub line_text : Bool → ℕ → Option ℕ → Option ℕ → List ℕ
line_text wide count None stop = []
line_text wide count (Some start) stop = line_from wide count start stop

-- the start of a lane
unfoldable pub lane_start_text : Lane → List ℕ
lane_start_text lane = pieces (codes "<g class='" ∷ status_word lane.span.status ∷ pale lane.is_dead ∷ codes "' transform='translate(0 " ∷ decimal (y_at lane.row) ∷ codes ")'>" ∷ [])

-- a lane of a picture with `count` entries
unfoldable pub lane_text : Bool → ℕ → Lane → List ℕ
lane_text wide count lane = pieces (lane_start_text lane ∷ label_text wide lane ∷ line_text wide count lane.span.start lane.span.stop ∷ codes "</g>\n" ∷ [])

-- ---- marks

-- the shape of a mark
unfoldable pub shape_text : Op → List ℕ
shape_text Op'.Read = codes "<circle r='5'/>"
shape_text Op'.Write = codes "<rect x='-5' y='-5' width='10' height='10'/>"
shape_text Op'.Add = codes "<path d='M-6 0H6M0-6V6'/>"

-- the word of an operation
unfoldable pub op_word : Op → List ℕ
op_word Op'.Read = codes "read"
op_word Op'.Write = codes "write"
op_word Op'.Add = codes "add"

-- the start of a mark
unfoldable pub mark_start_text : Bool → Mark → List ℕ
mark_start_text wide mark = pieces (codes "<g class='" ∷ op_word mark.op ∷ pale mark.is_dead ∷ codes "' transform='translate(" ∷ decimal (x_at wide mark.number) ∷ codes " " ∷ decimal (y_at mark.row) ∷ codes ")'>" ∷ [])

-- a mark with its object and its value
unfoldable pub mark_text : Bool → Mark → List ℕ
mark_text wide mark = pieces (mark_start_text wide mark ∷ shape_text mark.op ∷ codes "<text class='object' y='17'>" ∷ decimal mark.x ∷ codes "</text><text y='28'>" ∷ signed_decimal mark.v ∷ codes "</text></g>\n" ∷ [])

-- ---- arrows

-- the kind of an arrow
unfoldable pub drawn_word : ArrowKind → List ℕ
drawn_word ArrowKind'.Source = codes "source"
drawn_word ArrowKind'.Permit = codes "permit"
drawn_word ArrowKind'.Open = codes "open"
drawn_word ArrowKind'.Delegate = codes "delegate"
drawn_word ArrowKind'.Cd = codes "cd"
drawn_word ArrowKind'.Ad = codes "ad"
drawn_word ArrowKind'.Gc = codes "gc"

-- the bow from a read to its source, but for the last row
unfoldable pub bow_text : Bool → Arrow → List ℕ
bow_text wide arrow = pieces (codes "C" ∷ decimal (x_at wide arrow.from) ∷ codes " " ∷ decimal (bow_at arrow.row) ∷ codes " " ∷ decimal (x_at wide arrow.to) ∷ codes " " ∷ decimal (bow_at arrow.to_row)
    ∷ codes " " ∷ decimal (x_at wide arrow.to) ∷ codes " " ∷ [])

-- what is between the ends of an arrow: a bow, a ring round the lane, or a line up or down
unfoldable pub way_text : Bool → Arrow → ArrowKind → List ℕ
way_text wide arrow ArrowKind'.Source = bow_text wide arrow
way_text wide arrow ArrowKind'.Open = codes "m-8 0a8 8 0 1 0 16 0a8 8 0 1 0-16 0V"
way_text wide arrow kind = codes "V"

-- the start of an arrow
unfoldable pub arrow_start_text : Bool → Arrow → List ℕ
arrow_start_text wide arrow = pieces (codes "<path class='arrow " ∷ drawn_word arrow.kind ∷ pale arrow.is_dead ∷ codes "' d='M" ∷ decimal (x_at wide arrow.from) ∷ codes " " ∷ decimal (y_at arrow.row) ∷ codes " " ∷ [])

-- an arrow
unfoldable pub arrow_text : Bool → Arrow → List ℕ
arrow_text wide arrow = pieces (arrow_start_text wide arrow ∷ way_text wide arrow arrow.kind ∷ decimal (y_at arrow.to_row) ∷ codes "'/>\n" ∷ [])
