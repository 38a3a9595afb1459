-- Whom a commit or an abort takes, by the ways that earlier steps opened.
use Rattle.std.specs.Prelude.{ℕ, Bool, cond, ◌&&◌, List, Option, Some, None}
use Rattle.asset_names.specs.declared.statuses.End.{End}
use Rattle.asset_names.specs.declared.statuses.End.TheVariants as End'
use Rattle.asset_names.specs.declared.steps.Step.{Step}
use Rattle.asset_names.specs.declared.steps.Step.TheVariants.{Commit, Abort}
use Rattle.asset_names.specs.Arrows.{linked, among}
use Rattle.asset_names.specs.Endings.{live}
use Rattle.asset_reference.specs.declared.endings.Along.{Along}
use Rattle.asset_reference.specs.declared.endings.Along.TheVariants.{Classes, Aborts}
use Rattle.asset_reference.specs.Ways.{ways}

-- whether an end of u takes t: a way leads to t, and u is live
unfoldable pub takes_along : List Step → Along → ℕ → ℕ → Bool
takes_along steps along u t = linked (among (live steps) (ways along steps)) u t && live steps u

-- how a step ends t after these steps
unfoldable pub ends_by : Step → List Step → ℕ → Option End
ends_by (Commit u) steps t = cond (takes_along steps Classes u.0 t) (Some End'.Committed) None
ends_by (Abort u) steps t = cond (takes_along steps Aborts u.0 t) (Some End'.Aborted) None
ends_by step steps t = None
