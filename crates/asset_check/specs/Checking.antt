-- What a checker shows, and the first bad line of several.
use Rattle.std.specs.Prelude.{ℕ, Bool, true, false, cond, Option, None, Some}
use Rattle.asset_names.specs.Steps.{Opening}
use Rattle.asset_check.specs.Checked.{Seen}

-- the objects so far, or nothing if a step was asked for, as the flag says
unfoldable pub seen_in : Bool → Opening → Seen
seen_in true opening = None
seen_in false opening = Some opening

-- the first bad line so far, or else the first later one
unfoldable pub or_first : Option ℕ → Option ℕ → Option ℕ
or_first None later = later
or_first (Some n) later = Some n

-- the first bad line so far, with this one, which is bad or not
unfoldable pub or_this : Option ℕ → Bool → ℕ → Option ℕ
or_this bad is_bad n = or_first bad (cond is_bad (Some n) None)
