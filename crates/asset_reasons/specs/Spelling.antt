-- What is wrong with the bytes of a line, whatever its words say.
use Rattle.std.specs.Prelude.{ℕ, ◌==◌, ◌-◌, ◌&&◌, ◌||◌, Bool, false, cond, List, [], ◌∷◌, length, get_or, Option, None, Some}
use Rattle.std.specs.List.{list_all, list_any}
use Rattle.asset_reasons.specs.declared.reasons.Reason.{Reason}
use Rattle.asset_reasons.specs.declared.reasons.Reason.TheVariants.{ByteOrderMark, CarriageReturn, Tab, SpacesAlone, SpaceAtStart, SpaceAtEnd, TwoSpaces, CommentAfter, SpaceAtComma}

-- a byte stands first
unfoldable pub begins_with : ℕ → List ℕ → Bool
begins_with byte line = get_or line 0 0 == byte

-- a byte stands last
unfoldable pub ends_with : ℕ → List ℕ → Bool
ends_with byte line = get_or line (length line - 1) 0 == byte

-- a byte stands somewhere
unfoldable pub has_byte : ℕ → List ℕ → Bool
has_byte byte line = list_any (λ b. b == byte) line

-- there is no other byte
unfoldable pub has_alone : ℕ → List ℕ → Bool
has_alone byte line = list_all (λ b. b == byte) line

-- a byte stands somewhere, and another one comes next
unfoldable pub has_pair : ℕ → ℕ → List ℕ → Bool
has_pair a b [] = false
has_pair a b (x ∷ []) = false
has_pair a b (x ∷ y ∷ rest) = (x == a && y == b) || has_pair a b (y ∷ rest)

-- the three bytes of a byte order mark stand first
unfoldable pub has_mark : List ℕ → Bool
has_mark line = get_or line 0 0 == 239 && get_or line 1 0 == 187 && get_or line 2 0 == 191

-- a space stands beside a comma
unfoldable pub has_space_at_comma : List ℕ → Bool
has_space_at_comma line = has_pair 44 32 line || has_pair 32 44 line

-- what is wrong with spaces: the first rule that applies
unfoldable pub spacing : List ℕ → Option Reason
spacing line =
    cond (has_alone 32 line) (Some SpacesAlone)
    (cond (begins_with 32 line) (Some SpaceAtStart)
    (cond (ends_with 32 line) (Some SpaceAtEnd)
    (cond (has_pair 32 32 line) (Some TwoSpaces)
    (cond (has_pair 32 35 line) (Some CommentAfter)
    (cond (has_space_at_comma line) (Some SpaceAtComma) None)))))

-- what is wrong with the bytes: the first rule that applies
unfoldable pub spelling : List ℕ → Option Reason
spelling line =
    cond (has_mark line) (Some ByteOrderMark)
    (cond (ends_with 13 line) (Some CarriageReturn)
    (cond (has_byte 9 line) (Some Tab) (spacing line)))
