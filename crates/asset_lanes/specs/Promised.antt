-- What is promised of marks and arrows.
use Rattle.std.specs.Prelude.{◌≡◌, ℕ, ◌==◌, Bool, ◌&&◌, List, [], ◌∷◌, filter, reverse, slice_get, Contains, Some}
use Rattle.asset_names.specs.declared.operations.Op.TheVariants as Op'
use Rattle.asset_names.specs.declared.steps.Step.{Step}
use Rattle.asset_names.specs.declared.steps.Step.TheVariants.{Read, Write, Add}
use Rattle.asset_names.specs.declared.replies.Reply.{Reply}
use Rattle.asset_names.specs.declared.replies.Reply.TheVariants.{Value}
use Rattle.asset_names.specs.Steps.{Entry, takes_effect}
use Rattle.asset_names.specs.Sources.{is_operation}
use Rattle.asset_names.specs.Groups.{actor}
use Rattle.asset_deletion.specs.Grouping.{grouping_of}
use Rattle.asset_sources.specs.declared.sourced.Source.TheVariants as Source'
use Rattle.asset_sources.specs.Sourced.{source_at}
use Rattle.asset_lanes.specs.declared.marking.Mark.{Mark}
use Rattle.asset_lanes.specs.declared.pointing.Arrow.{Arrow}
use Rattle.asset_lanes.specs.declared.pointing.ArrowKind.TheVariants as ArrowKind'
use Rattle.asset_lanes.specs.Lanes.{lane_names}
use Rattle.asset_lanes.specs.Marks.{marks}
use Rattle.asset_lanes.specs.Arrows.{arrows}

-- the marks of the picture of entries
unfoldable pub picture_marks : List Entry → List Mark
picture_marks entries = marks (grouping_of entries) (lane_names (grouping_of entries)) entries

-- the arrows of the picture of entries
unfoldable pub picture_arrows : List Entry → List Arrow
picture_arrows entries = arrows (grouping_of entries) (lane_names (grouping_of entries)) entries

-- the marks of the entry with this number
unfoldable pub marks_numbered : ℕ → List Mark → List Mark
marks_numbered number marks = filter (λ (mark : Mark). mark.number == number) marks

-- whether an entry is an operation that took effect
unfoldable pub operates : Entry → Bool
operates entry = takes_effect entry.0 entry.1 && is_operation entry.0

-- the row is that of n's lane
abbrev pub IsRowOf : List Entry → ℕ → ℕ → Type 0
IsRowOf entries row n = slice_get (lane_names (grouping_of entries)) row ≡ Some n

-- the mark shows what was done: a read and the value that it got, a write and what it wrote, or an add and what it added
abbrev pub ShowsOperation : Mark → Step → Reply → Type 0
ShowsOperation mark (Read t x) (Value v) = (mark.op ≡ Op'.Read) × (mark.x ≡ x.0) × (mark.v ≡ v)
ShowsOperation mark (Write t x v) reply = (mark.op ≡ Op'.Write) × (mark.x ≡ x.0) × (mark.v ≡ v)
ShowsOperation mark (Add t x d) reply = (mark.op ≡ Op'.Add) × (mark.x ≡ x.0) × (mark.v ≡ d)
ShowsOperation mark step reply = ⊥

-- the entry has one mark, in its transaction's lane, which shows what was done
abbrev pub HasOneMark : List Entry → ℕ → Entry → Type 0
HasOneMark entries number entry =
    (mark : Mark) × (marks_numbered number (picture_marks entries) ≡ mark ∷ []) × IsRowOf entries mark.row (actor entry.0).0 × ShowsOperation mark entry.0 entry.1

-- the entry has no mark
abbrev pub HasNoMark : List Entry → ℕ → Type 0
HasNoMark entries number = marks_numbered number (picture_marks entries) ≡ []

-- the row is that of the lane of the transaction that the entry with this number acts on
abbrev pub IsRowAt : List Entry → ℕ → ℕ → Type 0
IsRowAt entries row number = (entry : Entry) × (slice_get (reverse entries) number ≡ Some entry) × IsRowOf entries row (actor entry.0).0

-- the arrow goes from a read, in the lane of who read, to the entry that is its source, in the lane of who wrote it
pub record GoesToSource (entries : List Entry) (arrow : Arrow) : Type 0 where
  pub source : source_at entries arrow.from ≡ Some (Source'.Entry arrow.to)
  pub reader : IsRowAt entries arrow.row arrow.from
  pub writer : IsRowAt entries arrow.to_row arrow.to

-- the picture has an arrow from the read with this number to the entry with that one, which is its source
pub record HasSourceArrow (entries : List Entry) (number source : ℕ) : Type 0 where
  pub arrow : Arrow
  pub drawn : Contains (picture_arrows entries) arrow
  pub kind : arrow.kind ≡ ArrowKind'.Source
  pub begins : arrow.from ≡ number
  pub ends : arrow.to ≡ source
