-- The arrows of a picture: permits, delegations and dependencies that were made, and from each read to its source.
use Rattle.std.specs.Prelude.{ℕ, List, [], ◌∷◌, ◌++◌, length, reverse, slice_get, Option, None, Some}
use Rattle.asset_names.specs.declared.names.Txn.{Txn}
use Rattle.asset_names.specs.declared.steps.Kind.{Kind}
use Rattle.asset_names.specs.declared.steps.Kind.TheVariants as Kind'
use Rattle.asset_names.specs.declared.steps.Step.{Step}
use Rattle.asset_names.specs.declared.steps.Step.TheVariants.{Read, Permit, PermitAny, Delegate, Depend}
use Rattle.asset_names.specs.declared.replies.Reply.{Reply}
use Rattle.asset_names.specs.declared.replies.Reply.TheVariants as Reply'
use Rattle.asset_names.specs.Steps.{Entry}
use Rattle.asset_names.specs.Groups.{actor}
use Rattle.asset_sources.specs.declared.sourced.Source.{Source}
use Rattle.asset_sources.specs.declared.sourced.Source.TheVariants as Source'
use Rattle.asset_sources.specs.Sourced.{source_at}
use Rattle.asset_deletion.specs.Grouping.{Grouping, dead_in}
use Rattle.asset_lanes.specs.declared.pointing.Arrow.{Arrow}
use Rattle.asset_lanes.specs.declared.pointing.ArrowKind.{ArrowKind}
use Rattle.asset_lanes.specs.declared.pointing.ArrowKind.TheVariants as ArrowKind'
use Rattle.asset_lanes.specs.Lanes.{row_of}

-- an arrow from t's lane at one entry to u's lane at another
unfoldable pub arrow_to : Grouping → List ℕ → ArrowKind → ℕ → Txn → ℕ → Txn → Arrow
arrow_to groups rows kind from t to u = record { kind = kind; from = from; row = row_of rows t.0; to = to; to_row = row_of rows u.0; is_dead = dead_in groups t.0 }

-- how a dependency is drawn
unfoldable pub arrow_kind : Kind → ArrowKind
arrow_kind Kind'.Cd = ArrowKind'.Cd
arrow_kind Kind'.Ad = ArrowKind'.Ad
arrow_kind Kind'.Gc = ArrowKind'.Gc

-- the arrow of t's read to its source, which is this entry
unfoldable pub arrow_to_entry : Grouping → List ℕ → ℕ → Txn → ℕ → Option Entry → Option Arrow
arrow_to_entry groups rows from t to None = None
arrow_to_entry groups rows from t to (Some entry) = Some (arrow_to groups rows ArrowKind'.Source from t to (actor entry.0))

-- the arrow of t's read to its source, if that is no opening value
unfoldable pub source_arrow : Grouping → List ℕ → List Entry → ℕ → Txn → Option Source → Option Arrow
source_arrow groups rows entries from t None = None
source_arrow groups rows entries from t (Some Source'.Opening) = None
source_arrow groups rows entries from t (Some (Source'.Entry to)) = arrow_to_entry groups rows from t to (slice_get (reverse entries) to)

-- The arrow of the entry with this number, if it has one: from who permits, delegates or is depended on to the other, from
-- who permits to anybody to itself, or from a read to its source.
unfoldable pub arrow_of : Grouping → List ℕ → List Entry → ℕ → Step → Reply → Option Source → Option Arrow
arrow_of groups rows entries number (Read t x) reply source = source_arrow groups rows entries number t source
arrow_of groups rows entries number (Permit giver taker obs ops) Reply'.Done source = Some (arrow_to groups rows ArrowKind'.Permit number giver number taker)
arrow_of groups rows entries number (PermitAny giver obs ops) Reply'.Done source = Some (arrow_to groups rows ArrowKind'.Open number giver number giver)
arrow_of groups rows entries number (Delegate giver taker obs) Reply'.Done source = Some (arrow_to groups rows ArrowKind'.Delegate number giver number taker)
arrow_of groups rows entries number (Depend kind a b) Reply'.Done source = Some (arrow_to groups rows (arrow_kind kind) number a number b)
arrow_of groups rows entries number step reply source = None

-- an arrow, if there is one
unfoldable pub arrow_list : Option Arrow → List Arrow
arrow_list None = []
arrow_list (Some arrow) = arrow ∷ []

-- the arrows of the older of all entries, oldest first
unfoldable pub arrows_among : Grouping → List ℕ → List Entry → List Entry → List Arrow
arrows_among groups rows all [] = []
arrows_among groups rows all (entry ∷ older) =
    arrows_among groups rows all older ++ arrow_list (arrow_of groups rows all (length older) entry.0 entry.1 (source_at all (length older)))

-- the arrows of all entries, oldest first
unfoldable pub arrows : Grouping → List ℕ → List Entry → List Arrow
arrows groups rows entries = arrows_among groups rows entries entries
