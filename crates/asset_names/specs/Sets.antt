-- Lists of objects, and objects that are listed twice.
use Rattle.std.specs.Prelude.{◌≡◌, ℕ, ◌≤◌, Bool, true, false, cond, ◌==◌, nat_le, nat_lt, List, [], ◌∷◌, map, count_by, Option, Some, None}
use Rattle.asset_names.specs.declared.names.Ob.{Ob}

-- the numbers of the objects
unfoldable pub numbers : List Ob → List ℕ
numbers objects = map (λ (x : Ob). x.0) objects

-- whether the number is listed at least twice
unfoldable pub twice : List ℕ → ℕ → Bool
twice listed n = nat_le 2 (count_by (λ m. m == n) listed)

-- the number is listed twice, and no lesser one is
unfoldable pub IsLeastDouble : List ℕ → ℕ → Type 0
IsLeastDouble listed n = (twice listed n ≡ true) × ((m : ℕ) → twice listed m ≡ true → n ≤ m)

-- no number is listed twice
unfoldable pub HasNoDouble : List ℕ → Type 0
HasNoDouble listed = (m : ℕ) → twice listed m ≡ false

-- the lesser of an object and of one that may be there
abbrev pub lesser : Ob → Option Ob → Ob
lesser x None = x
lesser x (Some y) = cond (nat_lt y.0 x.0) y x

-- the object in the empty slots of a list, and in a rule that does not apply
abbrev pub no_object_name : Ob
no_object_name = record { 0 = 0 }

-- the objects with one more, which stands before the first that is greater
unfoldable pub put_in : Ob → List Ob → List Ob
put_in x [] = x ∷ []
put_in x (y ∷ objects) = cond (nat_lt x.0 y.0) (x ∷ y ∷ objects) (y ∷ put_in x objects)

-- the objects in rising order
unfoldable pub rising : List Ob → List Ob
rising [] = []
rising (x ∷ objects) = put_in x (rising objects)
