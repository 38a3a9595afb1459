-- The marks of a picture: one for each operation that took effect.
use Rattle.std.specs.Prelude.{ℕ, ℤ, List, [], ◌∷◌, ◌++◌, length, Option, None, Some}
use Rattle.asset_names.specs.declared.names.Txn.{Txn}
use Rattle.asset_names.specs.declared.names.Ob.{Ob}
use Rattle.asset_names.specs.declared.operations.Op.{Op}
use Rattle.asset_names.specs.declared.operations.Op.TheVariants as Op'
use Rattle.asset_names.specs.declared.steps.Step.{Step}
use Rattle.asset_names.specs.declared.steps.Step.TheVariants.{Read, Write, Add}
use Rattle.asset_names.specs.declared.replies.Reply.{Reply}
use Rattle.asset_names.specs.declared.replies.Reply.TheVariants as Reply'
use Rattle.asset_names.specs.Steps.{Entry}
use Rattle.asset_deletion.specs.Grouping.{Grouping, dead_in}
use Rattle.asset_lanes.specs.declared.marking.Mark.{Mark}
use Rattle.asset_lanes.specs.Lanes.{row_of}

-- the mark of the entry with this number, in t's lane
unfoldable pub marked : Grouping → List ℕ → ℕ → Op → Txn → Ob → ℤ → Mark
marked groups rows number op t x v = record { number = number; row = row_of rows t.0; is_dead = dead_in groups t.0; op = op; x = x.0; v = v }

-- the mark of an entry: a read has what it was answered, a write what it wrote, and an add what it added
unfoldable pub mark_of : Grouping → List ℕ → ℕ → Step → Reply → Option Mark
mark_of groups rows number (Read t x) (Reply'.Value v) = Some (marked groups rows number Op'.Read t x v)
mark_of groups rows number (Write t x v) Reply'.Done = Some (marked groups rows number Op'.Write t x v)
mark_of groups rows number (Add t x d) Reply'.Done = Some (marked groups rows number Op'.Add t x d)
mark_of groups rows number step reply = None

-- a mark, if there is one
unfoldable pub mark_list : Option Mark → List Mark
mark_list None = []
mark_list (Some mark) = mark ∷ []

-- the marks of all entries, oldest first
unfoldable pub marks : Grouping → List ℕ → List Entry → List Mark
marks groups rows [] = []
marks groups rows (entry ∷ older) = marks groups rows older ++ mark_list (mark_of groups rows (length older) entry.0 entry.1)
