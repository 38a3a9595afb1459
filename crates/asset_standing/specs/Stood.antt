-- What is returned of what a script leaves: the facility, or its bad line.
use Rattle.std.specs.Prelude.{ℕ, Option, None, Some}
use Rattle.asset_core.specs.Pending.{Facility}
use Rattle.asset_standing.specs.declared.standing.Stood.{Stood}
use Rattle.asset_standing.specs.declared.standing.Stood.TheVariants.{Finished, BadLine}
use Rattle.asset_standing.specs.Standing.{ScriptLeft}

-- the facility, or only the number of the bad line if there is one
unfoldable pub stood_at : Option ℕ → Facility → Stood
stood_at None facility = Finished facility
stood_at (Some n) facility = BadLine n

-- what is returned of what a script leaves
unfoldable pub stood_of : ScriptLeft → Stood
stood_of standing = stood_at standing.bad standing.facility
