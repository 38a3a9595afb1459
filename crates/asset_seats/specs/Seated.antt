-- Who has which seat: the number by which tables keep what is a transaction's.
use Rattle.std.specs.Prelude.{◌≡◌, ℕ, Bool, List, Option, None, Some, slice_index_or}
use Rattle.asset_names.specs.declared.names.Txn.{Txn}
use Rattle.asset_seats.specs.declared.sitter.Sitter.{Sitter}

-- the seats
pub record Seated : Type 0 where
  -- who has each seat, if anybody has it
  pub slots : List (Option Txn)
  -- the seat that is given next
  pub vacant : ℕ
  -- whether it can be given without memory
  pub has_room : Bool

-- who has a seat; nobody past the last seat
unfoldable pub seat : Seated → ℕ → Option Txn
seat seats c = slice_index_or seats.slots c None

-- the transaction has the seat that it says
abbrev pub HasSeat : Seated → Sitter → Type 0
HasSeat seats sitter = seat seats sitter.at ≡ Some sitter.t
