-- How text is cut into words and into parts.
use Rattle.std.specs.Prelude.{◌≡◌, ℕ, ◌==◌, ◌<◌, ◌≤◌, ◌⊎◌, Bool, true, false, List, [], ◌∷◌, length, take, get_or, Option, None, Some, option_map}
use Rattle.std.specs.List.{slice_split}
use Rattle.asset_grammar.specs.Lines.{first_line, line_tail, Lacks}

-- What stands between the bytes of one kind. Two of them in a row have an empty part between them.
unfoldable pub parts : ℕ → List ℕ → List (List ℕ)
parts separator text = slice_split (λ b. b == separator) text

-- the words of a line: what stands between its spaces
unfoldable pub words : List ℕ → List (List ℕ)
words line = parts 32 line

-- A line that is being read at the start of a text: its words that are still to come, and the text from its end on.
pub record LineLeft : Type 0 where
  pub words : List (List ℕ)
  pub tail : List ℕ

-- what is left of the first line of a text, or of a line whose last word is gone
unfoldable pub line_left : Bool → List ℕ → LineLeft
line_left true text = record { words = []; tail = text }
line_left false text = record { words = parts 32 (first_line text); tail = line_tail text }

-- whether no word is left
unfoldable pub none_left : List (List ℕ) → Bool
none_left [] = true
none_left (word ∷ rest) = false

-- what the first word is read as, and the words after it
unfoldable pub taken : {A : Type 0} → (List ℕ → Option A) → List (List ℕ) → Option (A × List (List ℕ))
taken read [] = None
taken read (word ∷ rest) = option_map (λ x. (x, rest)) (read word)

-- the first word was taken and read so, within its line; or it cannot be, or there is none
abbrev pub Takes : {A : Type 0} → (List ℕ → Option A) → LineLeft → Option A → LineLeft → Type 0
Takes read old None new = taken read old.words ≡ None
Takes read old (Some x) new = (taken read old.words ≡ Some (x, new.words)) × (new.tail ≡ old.tail)

-- no word of the line is left, and the text from its end on is as before
abbrev pub AtEnd : LineLeft → LineLeft → Type 0
AtEnd old new = (new.words ≡ []) × (new.tail ≡ old.tail)

-- all words were read so, to the end of their line; or they cannot be
abbrev pub Reads : {A : Type 0} → (List (List ℕ) → Option A) → LineLeft → Option A → LineLeft → Type 0
Reads read old None new = read old.words ≡ None
Reads read old (Some x) new = (read old.words ≡ Some x) × AtEnd old new

-- the first `size` bytes of a text are a word: a space, a line feed or the end of the text comes next
pub record IsWordAt (text : List ℕ) (size : ℕ) : Type 0 where
  pub within : size ≤ length text
  pub one_line : Lacks 10 (take size text)
  pub one_word : Lacks 32 (take size text)
  pub stops : (size ≡ length text) ⊎ ((get_or text size 0 ≡ 32) ⊎ (get_or text size 0 ≡ 10))

-- the first `size` bytes of a line, if no space is among them, are its first word, and these words come after it on the line
pub record Ends (text : List ℕ) (size : ℕ) (after : LineLeft) : Type 0 where
  pub words_are : Lacks 32 (take size (first_line text)) → parts 32 (first_line text) ≡ take size (first_line text) ∷ after.words
  pub tail_is : after.tail ≡ line_tail text

-- the line goes on after its first `size` bytes, and not with a space: if these are all of one word, the word goes on
pub record GoesOn (text : List ℕ) (size : ℕ) : Type 0 where
  pub inside : size < length (first_line text)
  pub no_space : get_or (first_line text) size 0 ≡ 32 → ⊥
