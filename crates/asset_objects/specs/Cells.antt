-- The table of objects: of each object a base and the updates that stand over it.
use Rattle.std.specs.Prelude.{ℕ, ℤ, ◌+ℤ◌, Bool, true, false, cond, ◌==◌, List, [], ◌∷◌, find, map, Option, None, Some, option_map, is_some}
use Rattle.std.specs.List.{count_by, list_any, sum_by}
use Rattle.std.specs.Int.{w64, int_wrap}
use Rattle.asset_names.specs.declared.names.Ob.{Ob}
use Rattle.asset_names.specs.Numbered.{number_in}
use Rattle.asset_names.specs.declared.statuses.End.{End}
use Rattle.asset_names.specs.declared.statuses.End.TheVariants.{Committed, Aborted}
use Rattle.asset_names.specs.Steps.{Opening}
use Rattle.asset_names.specs.Operations.{opening_at}

-- what an update did: it wrote a value, or added an amount
pub data Effect : Type 0 where
  wrote : ℤ → Effect
  added : ℤ → Effect

-- an update that stands: whose it is, and what it did; an add of nobody stands for good, over a write that may go
pub record Update : Type 0 where
  pub owner : Option ℕ
  pub effect : Effect

-- an object: its base, and the updates that stand over the base, newest first
pub record Cell : Type 0 where
  pub base : ℤ
  pub records : List Update

-- the cell of each object that exists
abbrev pub Cells : Type 0
Cells = ℕ → Option Cell

-- the objects, each with its cell, whether one more update is reserved, and how many records the last end or hand-over visited
pub record ObjectTable : Type 0 where
  pub rows : List (ℕ × Cell)
  pub reserved : Bool
  pub visits : ℕ

-- the objects, in the order of the opening
unfoldable pub named_in : ObjectTable → List Ob
named_in table = map (λ (row : ℕ × Cell). record { 0 = row.0 }) table.rows

-- the number of an object: how many objects stand before it in the opening
unfoldable pub number_of : ObjectTable → ℕ → Option ℕ
number_of table x = number_in (named_in table) x

-- the cells of a table
unfoldable pub cells : ObjectTable → Cells
cells table x = option_map (λ (row : ℕ × Cell). row.1) (find (λ (row : ℕ × Cell). row.0 == x) table.rows)

-- an object at its opening value, without an update
unfoldable pub fresh : ℤ → Cell
fresh value = record { base = value; records = [] }

-- the cells of an opening
unfoldable pub opened : Opening → Cells
opened opening x = option_map fresh (opening_at opening x)

-- the value that an update leaves, over the one before it; a sum wraps to 64 bits
unfoldable pub after : Effect → ℤ → ℤ
after (wrote value) before = value
after (added amount) before = int_wrap w64 (before +ℤ amount)

-- the base with the updates in order
unfoldable pub shown_over : ℤ → List Update → ℤ
shown_over base [] = base
shown_over base (update ∷ older) = after update.effect (shown_over base older)

-- the value that an object shows
unfoldable pub shown : Cell → ℤ
shown cell = shown_over cell.base cell.records

-- the value of an object, if it exists
unfoldable pub value_in : Cells → ℕ → Option ℤ
value_in cells x = option_map shown (cells x)

-- whether the object exists
unfoldable pub has_object : Cells → ℕ → Bool
has_object cells x = is_some (cells x)

-- whether somebody passes the test; nobody does not
abbrev pub passes : (ℕ → Bool) → Option ℕ → Bool
passes test None = false
passes test (Some owner) = test owner

-- whether the update is that of one who passes the test
abbrev pub is_owned : (ℕ → Bool) → Update → Bool
is_owned test update = passes test update.owner

-- whether an update of this owner stands
unfoldable pub has_update : ℕ → Cell → Bool
has_update owner cell = list_any (is_owned (λ (n : ℕ). n == owner)) cell.records

-- whether an effect is that of a write
abbrev pub is_wrote : Effect → Bool
is_wrote (wrote value) = true
is_wrote (added amount) = false

-- whether a write stands
unfoldable pub has_wrote : Cell → Bool
has_wrote cell = list_any (λ (update : Update). is_wrote update.effect) cell.records

-- one more update
unfoldable pub updated : Option ℕ → Effect → Cell → Cell
updated owner effect cell = record cell { records = record { owner = owner; effect = effect } ∷ cell.records }

-- one more write
abbrev pub written : ℕ → ℤ → Cell → Cell
written owner value = updated (Some owner) (wrote value)

-- one more add
abbrev pub increased : ℕ → ℤ → Cell → Cell
increased owner amount = updated (Some owner) (added amount)

-- an add that stands for good: part of the base if no write stands over the base, and otherwise an update of nobody
unfoldable pub lasting : ℤ → Cell → Cell
lasting amount cell = cond (has_wrote cell) (updated None (added amount) cell) (record cell { base = int_wrap w64 (cell.base +ℤ amount) })

-- What an update makes of an object, by how its owner ended. Of a live transaction it stands over what was there; after an abort it
-- has gone; after a commit a write has nothing under it, and an add stands for good.
unfoldable pub placed : Option End → ℕ → Effect → Cell → Cell
placed None owner effect cell = updated (Some owner) effect cell
placed (Some Aborted) owner effect cell = cell
placed (Some Committed) owner (wrote value) cell = fresh value
placed (Some Committed) owner (added amount) cell = lasting amount cell

-- an update once more, if those who pass the test end in this way; an add of nobody stands for good
unfoldable pub placed_anew : End → (ℕ → Bool) → Option ℕ → Effect → Cell → Cell
placed_anew how test None effect cell = placed (Some Committed) 0 effect cell
placed_anew how test (Some owner) effect cell = placed (cond (test owner) (Some how) None) owner effect cell

-- the updates once more, oldest first, over a base
unfoldable pub ended_over : End → (ℕ → Bool) → ℤ → List Update → Cell
ended_over how test base [] = fresh base
ended_over how test base (update ∷ older) = placed_anew how test update.owner update.effect (ended_over how test base older)

-- what becomes of an object as those who pass the test end: its updates are placed once more, with their ends
unfoldable pub ended : End → (ℕ → Bool) → Cell → Cell
ended how test cell = ended_over how test cell.base cell.records

-- the updates of those who pass the test are taken away
abbrev pub undone : (ℕ → Bool) → Cell → Cell
undone = ended Aborted

-- the updates of those who pass the test stand for good
abbrev pub settled : (ℕ → Bool) → Cell → Cell
settled = ended Committed

-- the update, which is the taker's if it was the giver's
unfoldable pub handed_update : ℕ → ℕ → Update → Update
handed_update giver taker update = record update { owner = option_map (λ (n : ℕ). cond (n == giver) taker n) update.owner }

-- the updates of the giver are the taker's
unfoldable pub handed_cell : ℕ → ℕ → Cell → Cell
handed_cell giver taker cell = record cell { records = map (handed_update giver taker) cell.records }

-- a change of one object
unfoldable pub change_at : ℕ → (Cell → Cell) → Cells → Cells
change_at y change cells x = cond (y == x) (option_map change (cells x)) (cells x)

-- a change of each object
unfoldable pub change_each : (Cell → Cell) → Cells → Cells
change_each change cells x = option_map change (cells x)

-- a change of the objects that pass the test
unfoldable pub change_where : (ℕ → Bool) → (Cell → Cell) → Cells → Cells
change_where test change cells x = cond (test x) (option_map change (cells x)) (cells x)

-- how many updates of those who pass the test stand
unfoldable pub updates_by : (ℕ → Bool) → List (ℕ × Cell) → ℕ
updates_by test rows = sum_by (λ (row : ℕ × Cell). count_by (is_owned test) row.1.records) rows

-- how many updates of somebody stand
unfoldable pub standing : List (ℕ × Cell) → ℕ
standing rows = updates_by (λ (owner : ℕ). true) rows
