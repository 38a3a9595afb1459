-- The calls of a client in a history that they agree with.
use Rattle.std.specs.Prelude.{◌≡◌, ◌≤◌, ◌<◌, ℕ, Bool, true, List, reverse, length, slice_get, Some}
use Rattle.asset_names.specs.Steps.{Entry}
use Rattle.asset_audit.specs.Audited.{Call, HasNumber, AreGoodBelow}

-- The list of a session agrees with the entries and with the lists of earlier sessions: its numbers rise, each of its calls is
-- the entry with its number, and no earlier list has that number.
abbrev pub AgreesWith : List Entry → List (List Call) → List Call → Type 0
AgreesWith entries earlier list = AreGoodBelow (reverse entries) earlier list (length list)

-- each entry whose number no call of the list has passes the test
abbrev pub OthersPass : (Entry → Bool) → List Entry → List Call → Type 0
OthersPass test entries list = (n : ℕ) (entry : Entry) → slice_get (reverse entries) n ≡ Some entry → ¬ HasNumber list n → test entry ≡ true

-- the number stands between the numbers of two calls of the list, from this place of it on
abbrev pub IsBetween : List Call → ℕ → ℕ → Type 0
IsBetween list from n =
    ((i : ℕ) × (call : Call) × (from ≤ i) × (slice_get list i ≡ Some call) × (call.0 < n))
    × ((j : ℕ) × (call : Call) × (from ≤ j) × (slice_get list j ≡ Some call) × (n < call.0))

-- each entry whose number no call of the list has, and that stands between two calls of it from this place on, passes the test
abbrev pub OthersBetweenPass : (Entry → Bool) → List Entry → List Call → ℕ → Type 0
OthersBetweenPass test entries list from = (n : ℕ) (entry : Entry) → slice_get (reverse entries) n ≡ Some entry → ¬ HasNumber list n → IsBetween list from n → test entry ≡ true
