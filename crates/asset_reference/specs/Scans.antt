-- What one operation says of an object.
use Rattle.std.specs.Prelude.{ℕ, ℤ, Bool, cond, ◌==◌, ◌&&◌}
use Rattle.asset_names.specs.Operations.{Operation, after_use}

-- whether the operation is on x and t is responsible for it
unfoldable pub is_on : ℕ → ℕ → Operation → Bool
is_on t x o = o.owner == t && o.object == x

-- the value of the object after the operation, over the value before it: the same, unless the operation is on it and counts
unfoldable pub value_past : (Operation → Bool) → Operation → ℕ → ℤ → ℤ
value_past counts o x before = cond (o.object == x && counts o) (after_use o.use_of before) before
