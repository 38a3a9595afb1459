-- How numbers and values are written.
use Rattle.std.specs.Prelude.{◌≡◌, ◌≤◌, ℕ, ◌^◌, ◌==◌, ◌&&◌, ◌||◌, Bool, true, false, not, cond, nat_lt, nat_le, List, [], ◌∷◌, length, take, get_or, Option, None, Some, option_and_then, ℤ, pos, ◌-ℤ◌}
use Rattle.std.specs.Char.{is_ascii_digit}
use Rattle.std.specs.List.{list_all}
use Rattle.std.specs.Str.Parse.{digits_value}

-- a text has a first byte, and that is no zero unless it is the only one
unfoldable pub begins_well : List ℕ → Bool
begins_well [] = false
begins_well (first ∷ rest) = not (first == 48) || length rest == 0

-- a text is a numeral: digits, at least one, and the first is no zero unless it is the only one
unfoldable pub is_numeral : List ℕ → Bool
is_numeral [] = false
is_numeral (first ∷ rest) = list_all is_ascii_digit (first ∷ rest) && (not (first == 48) || length rest == 0)

-- the number that a text writes: a numeral below 2 ^ 64
unfoldable pub number_of : List ℕ → Option ℕ
number_of text = cond (is_numeral text && nat_lt (digits_value 10 text) (2 ^ 64)) (Some (digits_value 10 text)) None

-- a number without a sign is a value below 2 ^ 63
unfoldable pub positive_value : ℕ → Option ℤ
positive_value n = cond (nat_lt n (2 ^ 63)) (Some (pos n)) None

-- a number after a minus sign is a value from 1 to 2 ^ 63
unfoldable pub negative_value : ℕ → Option ℤ
negative_value n = cond (nat_lt 0 n && nat_le n (2 ^ 63)) (Some (pos 0 -ℤ pos n)) None

-- the value that a text writes: a number, with a minus sign before it if it is negative
unfoldable pub value_of : List ℕ → Option ℤ
value_of [] = None
value_of (first ∷ rest) =
    cond (first == 45) (option_and_then negative_value (number_of rest)) (option_and_then positive_value (number_of (first ∷ rest)))

-- the first `size` bytes of a text are digits, and write the number, perhaps with zeros before it
pub record AreDigitsAt (text : List ℕ) (number size : ℕ) : Type 0 where
  pub within : size ≤ length text
  pub digits : list_all is_ascii_digit (take size text) ≡ true
  pub value : number ≡ digits_value 10 (take size text)

-- the first `size` bytes of a text are all the digits at its start, and write the number
pub record AreAllDigitsAt (text : List ℕ) (number size : ℕ) : Type 0 where
  pub first : AreDigitsAt text number size
  pub ends : is_ascii_digit (get_or text size 0) ≡ false

-- the first `size` bytes of a text write a number, and no digit follows them
pub record IsNumberAt (text : List ℕ) (number size : ℕ) : Type 0 where
  pub within : size ≤ length text
  pub is : number_of (take size text) ≡ Some number
  pub ends : is_ascii_digit (get_or text size 0) ≡ false

-- no bytes at the start of a text write a number that ends where no digit follows
unfoldable pub NoNumberAt : List ℕ → Type 0
NoNumberAt text = (size : ℕ) → size ≤ length text → is_ascii_digit (get_or text size 0) ≡ false → number_of (take size text) ≡ None
