-- Arrows between names, and what is reached along them.
use Rattle.std.specs.Prelude.{ℕ, Bool, ◌==◌, ◌&&◌, ◌||◌, cond, List, [], ◌∷◌, ◌++◌, Contains, filter}
use Rattle.std.specs.List.{list_any}

-- an arrow from its first name to its second
abbrev pub Arrow : Type 0
Arrow = ℕ × ℕ

-- whether the name is listed
unfoldable pub lists : List ℕ → ℕ → Bool
lists names n = list_any (λ m. m == n) names

-- the names with one more, unless it is listed
unfoldable pub with_name : List ℕ → ℕ → List ℕ
with_name names n = cond (lists names n) names (names ++ n ∷ [])

-- whether an arrow leads from a to b
unfoldable pub has_arrow : List Arrow → ℕ → ℕ → Bool
has_arrow arrows a b = list_any (λ (arrow : Arrow). arrow.0 == a && arrow.1 == b) arrows

-- whether b is reached from a along the arrows: without the first one, or by going along it once
unfoldable pub linked : List Arrow → ℕ → ℕ → Bool
linked [] a b = a == b
linked (arrow ∷ arrows) a b = linked arrows a b || linked arrows a arrow.0 && linked arrows arrow.1 b

-- the arrows whose two ends pass the test
unfoldable pub among : (ℕ → Bool) → List Arrow → List Arrow
among test arrows = filter (λ (arrow : Arrow). test arrow.0 && test arrow.1) arrows

-- a chain of arrows leads from the first name to the second: they are one name, or an arrow leads to
-- a name from which a chain leads on
pub data Chain (arrows : List Arrow) : ℕ → ℕ → Type 0 where
  stay : (a : ℕ) → Chain arrows a a
  along : (a b c : ℕ) → Contains arrows (a, b) → Chain arrows b c → Chain arrows a c
