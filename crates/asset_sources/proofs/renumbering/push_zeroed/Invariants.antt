use Rattle.std.proofs.Common.{◌≡◌, take}
use Rattle.asset_laws.specs.Renumbered.{zeroed}
use Rattle.asset_sources.proofs.renumbering.push_zeroed.Given as goal

-- the first objects are appended
abbrev pub invariant-objects : goal.invariant-objects
invariant-objects l = l.zeroes.items ≡ zeroed (take l.given-index l.opening)
