-- How an audit sees that sessions have no number in common.
use Rattle.std.specs.Prelude.{◌≡◌, ℕ, ◌<◌, ◌≤◌, ◌+◌, ◌⊎◌, List, [], Bool, true, false, Some, length, take, slice_get}
use Rattle.asset_names.specs.Steps.{Entry}
use Rattle.asset_audit.specs.Audited.{Call, HasNumber, AnyHas, AreGoodBelow}

-- the calls before the place have lower numbers, and the others do not
pub record IsSplitAt (l : List Call) (number place : ℕ) : Type 0 where
  pub within : place ≤ length l
  pub below : (k : ℕ) (c : Call) → k < place → slice_get l k ≡ Some c → c.0 < number
  pub above : (k : ℕ) (c : Call) → place ≤ k → slice_get l k ≡ Some c → number ≤ c.0

-- the marks for the numbers from `first` on: those of the calls were not set and are, and what was set stays so
pub record IsMarked (l : List Call) (first : ℕ) (before after : List Bool) : Type 0 where
  pub fresh : (j : ℕ) → j < length before → HasNumber l (first + j) → slice_get before j ≡ Some false
  pub marked : (j : ℕ) → j < length before → HasNumber l (first + j) → slice_get after j ≡ Some true
  pub kept : (j : ℕ) → slice_get before j ≡ Some true → slice_get after j ≡ Some true
  pub only : (j : ℕ) → slice_get after j ≡ Some true → (slice_get before j ≡ Some true) ⊎ HasNumber l (first + j)

-- the mark of one of the calls is set
pub record HasMark (l : List Call) (first : ℕ) (marks : List Bool) : Type 0 where
  pub offset : ℕ
  pub within : offset < length marks
  pub has : HasNumber l (first + offset)
  pub set : slice_get marks offset ≡ Some true

-- no two of the first n lists have a number of the window in common
pub record AreApartIn (ss : List (List Call)) (n first width : ℕ) : Type 0 where
  pub apart : (i k : ℕ) (a b : List Call) (j : ℕ) → i < k → k < n → slice_get ss i ≡ Some a → slice_get ss k ≡ Some b → j < width → HasNumber a (first + j) → ¬ HasNumber b (first + j)

-- no two of the first n lists have a number below the limit in common
pub record AreApartBelow (ss : List (List Call)) (n limit : ℕ) : Type 0 where
  pub apart : (i k : ℕ) (a b : List Call) (q : ℕ) → i < k → k < n → slice_get ss i ≡ Some a → slice_get ss k ≡ Some b → q < limit → HasNumber a q → ¬ HasNumber b q

-- the list at the place has a number that an earlier one has
pub record SharesEarlier (ss : List (List Call)) (place : ℕ) : Type 0 where
  pub list : List Call
  pub at_place : slice_get ss place ≡ Some list
  pub number : ℕ
  pub has : HasNumber list number
  pub earlier : AnyHas (take place ss) number

-- the calls of each of the first n lists are good, whatever the others are
abbrev pub AreGoodAlone : List Entry → List (List Call) → ℕ → Type 0
AreGoodAlone log ss n = (i : ℕ) (l : List Call) → i < n → slice_get ss i ≡ Some l → AreGoodBelow log [] l (length l)

-- if there is a list at the place, not all of its calls are good after these earlier lists; past the end it says nothing
abbrev pub IsWrongAt : List Entry → List (List Call) → List (List Call) → ℕ → Type 0
IsWrongAt log earlier ss place = (l : List Call) → slice_get ss place ≡ Some l → ¬ AreGoodBelow log earlier l (length l)
