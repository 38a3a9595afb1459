-- Objects on which no write stands over an add. Of such an object an add goes, or stands for good, by its own record alone.
use Rattle.std.specs.Prelude.{◌≡◌, ℕ, Bool, true, false, not, ⊤, ◌&&◌, cond, List, [], ◌∷◌, slice_index_or}
use Rattle.asset_records.specs.declared.layers.Mark.{Mark}
use Rattle.asset_records.specs.declared.layers.Mark.TheVariants.{Writes, Layered, Mixed}
use Rattle.asset_records.specs.declared.records.Record.{Record}
use Rattle.asset_records.specs.Listed.{on}
use Rattle.asset_records.specs.Mended.{is_write, has_write}

-- whether no write stands over an add among the records, oldest first: the writes come first, and then the adds
unfoldable pub is_layered : List Record → Bool
is_layered [] = true
is_layered (one ∷ later) = cond (is_write one) (is_layered later) (not (has_write later))

-- whether all records are of writes
unfoldable pub only_writes : List Record → Bool
only_writes [] = true
only_writes (one ∷ later) = is_write one && only_writes later

-- whether a mark says that no write stands over an add
unfoldable pub says_layered : Mark → Bool
says_layered Writes = true
says_layered Layered = true
says_layered Mixed = false

-- the records of an object are as a mark says
unfoldable pub fits : Mark → List Record → Type 0
fits Writes records = only_writes records ≡ true
fits Layered records = is_layered records ≡ true
fits Mixed records = ⊤

-- the mark of an object; of one past the last nothing is known
unfoldable pub mark_at : List Mark → ℕ → Mark
mark_at marks i = slice_index_or marks i Mixed

-- the records of each object are as its mark says
unfoldable pub AreMarked : List Mark → List (List Record) → Type 0
AreMarked marks lists = (i : ℕ) → fits (mark_at marks i) (on lists i)
